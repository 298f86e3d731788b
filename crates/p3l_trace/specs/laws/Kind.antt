-- The label of a pick is read back as it is spelled.
use Rattle.std.proofs.Common.{◌≡◌, ℕ, List, [], ◌∷◌, ◌++◌, Option, Some, None, Ok, refl, subst}
use Rattle.p3l_firing.specs.declared.process.ProcKind.{ProcKind}
use Rattle.p3l_firing.specs.declared.process.ProcKind.TheVariants.{Source, Sink, Run, Emit, Collect, Scatter, Gather, Split, FoldGather, Join, Head, Tail}
use Rattle.p3l_format.specs.Lawful.{IsLawful}
use Rattle.p3l_format.specs.Text.{after_text}
use Rattle.p3l_format.specs.laws.Formats.{lawful_from}
use Rattle.p3l_format.specs.laws.Parts.{ok_is}
use Rattle.p3l_format.specs.laws.Text.{after_is}
use Rattle.p3l_trace.specs.Kind.{word_of, all_said, said_or, first_said, said_format}

said_again : (said : Option ProcKind) (rest : List ℕ) → first_said all_said (word_of said ++ rest) ≡ Ok (said, rest)
said_again (Some Source) rest = refl
said_again (Some Sink) rest = refl
said_again (Some Run) rest = refl
said_again (Some Emit) rest = refl
said_again (Some Collect) rest = refl
said_again (Some Scatter) rest = refl
said_again (Some Gather) rest = refl
said_again (Some Split) rest = refl
said_again (Some FoldGather) rest = refl
said_again (Some Join) rest = refl
said_again (Some Head) rest = refl
said_again (Some Tail) rest = refl
said_again None rest = refl

-- a kind that is read is spelled in front
said_takes : (all : List (Option ProcKind)) (s : List ℕ) (x : Option ProcKind × List ℕ) → first_said all s ≡ Ok x → s ≡ word_of x.0 ++ x.1
said_takes [] s x e = absurd cc
said_takes (said ∷ more) s x e = by_front (after_text (word_of said) s) (λ rest is. after_is (word_of said) s rest is) (λ later. said_takes more s x later) e
  where
    by_front : (o : Option (List ℕ)) → ((rest : List ℕ) → o ≡ Some rest → s ≡ word_of said ++ rest) → (first_said more s ≡ Ok x → s ≡ word_of x.0 ++ x.1) → said_or said o (first_said more s) ≡ Ok x → s ≡ word_of x.0 ++ x.1
    by_front None is later e = later e
    by_front (Some rest) is later e = subst (λ (y : Option ProcKind × List ℕ). s ≡ word_of y.0 ++ y.1) (ok_is (said, rest) x e) (is rest refl)

pub lawful_said : IsLawful said_format
unfolding said_format
lawful_said = lawful_from said_format (λ said rest fits. said_again said rest) (λ s x e. record { fits = refl; is = said_takes all_said s x e })
