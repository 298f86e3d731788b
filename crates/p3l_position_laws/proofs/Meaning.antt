-- The meaning of a body does not depend on its positions.
use Rattle.std.proofs.Common.{◌≡◌, ℕ, ℤ, zero, suc, ◌+◌, ◌*◌, pos, negsuc, Bool, true, false, List, [], ◌∷◌, Result, Ok, Err, refl, ap, sym, ◌∙◌, nat_lt}
use Rattle.std.specs.Prelude.{if◌then◌else◌}
use Rattle.p3l_base.specs.declared.outcome.TrapKind.{TrapKind}
use Rattle.p3l_base.specs.declared.outcome.TrapKind.TheVariants.{Index, Budget}
use Rattle.p3l_ast.specs.declared.meaning.valuation.Valuation.{Valuation}
use Rattle.p3l_ast.specs.Tree.{Phrase, number, read, unary, binary, Phrases, none, more, Statements, done, assign, if_, if_else, while_, for_, join}
use Rattle.p3l_ast.specs.Unplaced.{phrase_unplaced, phrases_unplaced, statements_unplaced}
use Rattle.p3l_ast.specs.Meaning.Operator.{holds}
use Rattle.p3l_ast.specs.Meaning.Valuation.{sizes_of, turned}
use Rattle.p3l_ast.specs.Meaning.Expression.{given, combined, indexed, value_of, place_of}
use Rattle.p3l_ast.specs.Meaning.Statement.{assigned, chosen, run_by, loop_by, loop_of, run_of}
use Rattle.p3l_body.specs.Seq.{SeqTree}
use Rattle.p3l_body.specs.Eval.{outcome_of, start_of, eval}
use Rattle.p3l_position_laws.specs.Bodies.{seq_unplaced}

given_same : {A B : Type 0} (r s : Result A TrapKind) (f g : A → Result B TrapKind) → s ≡ r → ((x : A) → g x ≡ f x) → given s g ≡ given r f
given_same {A} {B} r s f g e h = ap (λ t. given t g) e ∙ by r
  where
    by : (t : Result A TrapKind) → given t g ≡ given t f
    by (Ok x) = h x
    by (Err trap) = refl

indexed_same : (sizes : List ℕ) (place : ℕ) (go to : List ℕ → ℕ → Result ℕ TrapKind) → ((s : List ℕ) (n : ℕ) → to s n ≡ go s n) → (x : ℤ) → indexed sizes place to x ≡ indexed sizes place go x
indexed_same [] place go to h x = refl
indexed_same (size ∷ sizes) place go to h (pos i) = ap (λ t. if nat_lt i size then t else Err Index) (h sizes (place * size + i))
indexed_same (size ∷ sizes) place go to h (negsuc i) = refl

mutual
  unfolding value_of place_of

  value_same : (s : Valuation) (e : Phrase) → value_of s (phrase_unplaced e) ≡ value_of s e
  value_same s (number v) = refl
  value_same s (read x index) = given_same _ _ _ _ (index_same s index (sizes_of s x.name) 0) (λ place. refl)
  value_same s (unary op e) = given_same _ _ _ _ (value_same s e) (λ x. refl)
  value_same s (binary op a b) = ap (λ t. combined op t (value_of s (phrase_unplaced b))) (value_same s a) ∙ ap (combined op (value_of s a)) (value_same s b)

  index_same : (s : Valuation) (index : Phrases) (sizes : List ℕ) (place : ℕ) → place_of s (phrases_unplaced index) sizes place ≡ place_of s index sizes place
  index_same s none sizes place = refl
  index_same s (more e index) sizes place =
      given_same _ _ _ _ (value_same s e) (indexed_same sizes place (place_of s index) (place_of s (phrases_unplaced index)) (index_same s index))

assigned_same : (name : List ℕ) (index : Phrases) (e : Phrase) (s : Valuation) → assigned name (phrases_unplaced index) (phrase_unplaced e) s ≡ assigned name index e s
assigned_same name index e s =
    given_same _ _ _ _ (index_same s index (sizes_of s name) 0) (λ place. given_same _ _ _ _ (value_same s e) (λ word. refl))

chosen_same : (e : Phrase) (f g f' g' : Valuation → Result Valuation TrapKind) → ((s : Valuation) → f' s ≡ f s) → ((s : Valuation) → g' s ≡ g s) → (s : Valuation) → chosen (phrase_unplaced e) f' g' s ≡ chosen e f g s
chosen_same e f g f' g' p q s = given_same _ _ _ _ (value_same s e) (λ x. by (holds x))
  where
    by : (b : Bool) → (if b then f' else g') s ≡ (if b then f else g) s
    by true = p s
    by false = q s

joined_same : (c d : Statements) → statements_unplaced (join c d) ≡ join (statements_unplaced c) (statements_unplaced d)
joined_same done d = refl
joined_same (assign x index e c) d = let p = joined_same c d in cc
joined_same (if_ e t c) d = let p = joined_same c d in cc
joined_same (if_else e t f c) d = let p = joined_same c d in cc
joined_same (while_ e b c) d = let p = joined_same c d in cc
joined_same (for_ x is e w y js f b c) d = let p = joined_same c d in cc

module _ (loop its : Phrase → Statements → Valuation → Result Valuation TrapKind) (same : (e : Phrase) (b : Statements) (s : Valuation) → its (phrase_unplaced e) (statements_unplaced b) s ≡ loop e b s) where
  run_same : (c : Statements) (s : Valuation) → run_by its (statements_unplaced c) s ≡ run_by loop c s
  unfolding run_by
  run_same done s = refl
  run_same (assign x index e next) s = given_same _ _ _ _ (assigned_same x.name index e s) (run_same next)
  run_same (if_ e if_so next) s =
      given_same _ _ _ _ (chosen_same e (run_by loop if_so) Ok (run_by its (statements_unplaced if_so)) Ok (run_same if_so) (λ t. refl) s) (run_same next)
  run_same (if_else e if_so if_not next) s =
      given_same _ _ _ _
      (chosen_same e (run_by loop if_so) (run_by loop if_not) (run_by its (statements_unplaced if_so)) (run_by its (statements_unplaced if_not)) (run_same if_so) (run_same if_not) s)
      (run_same next)
  run_same (while_ e b next) s = given_same _ _ _ _ (same e b s) (run_same next)
  run_same (for_ x index e w y indices f b next) s =
      given_same _ _ _ _
      (given_same _ _ _ _ (assigned_same x.name index e s)
      (λ t. ap (λ c. its (phrase_unplaced w) c t) (sym (joined_same b (assign y indices f done))) ∙ same w (join b (assign y indices f done)) t))
      (run_same next)

loop_same : (budget turns : ℕ) (e : Phrase) (b : Statements) (s : Valuation) → loop_by budget turns (phrase_unplaced e) (statements_unplaced b) s ≡ loop_by budget turns e b s
unfolding loop_by
loop_same budget zero e b s = chosen_same e (λ t. Err Budget) Ok (λ t. Err Budget) Ok (λ t. refl) (λ t. refl) s
loop_same budget (suc turns) e b s =
    chosen_same e (λ t. given (given (turned budget t) (run_by (loop_by budget turns) b)) (loop_by budget turns e b)) Ok
    (λ t. given (given (turned budget t) (run_by (loop_by budget turns) (statements_unplaced b))) (loop_by budget turns (phrase_unplaced e) (statements_unplaced b))) Ok
    (λ t. given_same _ _ _ _
    (given_same _ _ _ _ refl (run_same (loop_by budget turns) (loop_by budget turns) (loop_same budget turns) b))
    (loop_same budget turns e b))
    (λ t. refl) s

pub runs_same : (budget : ℕ) (c : Statements) (s : Valuation) → run_of budget (statements_unplaced c) s ≡ run_of budget c s
unfolding run_of loop_of
runs_same budget c s = run_same (loop_of budget) (loop_of budget) (loop_same budget budget) c s

pub eval_same : (seq : SeqTree) (words : List ℤ) → eval (seq_unplaced seq) words ≡ eval seq words
eval_same seq words = ap (outcome_of seq.home seq.outs) (runs_same seq.budget seq.body (start_of seq words))
