-- The lines of a trace, one after another.
use Rattle.std.proofs.Common.{◌≡◌, ℕ, ℤ, ◌+◌, Bool, not, List, [], ◌∷◌, ◌++◌, Option, Some, None, cond, count_by, refl, sym, ap, subst, ◌∙◌, arith}
use Rattle.std.proofs.lemmas.List.Sums.{fold-append}
use Rattle.p3l_base.specs.declared.outcome.Outcome.{Outcome}
use Rattle.p3l_skel.specs.declared.tree.Tree.{Tree}
use Rattle.p3l_firing.specs.declared.net.Net.{Net}
use Rattle.p3l_firing.specs.declared.process.ProcKind.{ProcKind}
use Rattle.p3l_firing.specs.Run.{Course, after_picks, picked}
use Rattle.p3l_trace.specs.declared.trace.TraceLine.{TraceLine}
use Rattle.p3l_trace.specs.Agreement.{AgreeFrom, AgreesIn, IsCounted, IsLineOf, fired_of, idle_of, is_kind, picks_of}

pub picks_more : (walked : List TraceLine) (line : TraceLine) → picks_of (walked ++ line ∷ []) ≡ picks_of walked ++ line.pick ∷ []
picks_more [] line = refl
picks_more (first ∷ walked) line = ap (λ ps. first.pick ∷ ps) (picks_more walked line)

-- one line more agrees
pub agree_more : (tree : Tree) (leaf : ℕ → List ℤ → Outcome) (net : Net) (c : Course) (walked : List TraceLine) (line : TraceLine)
    → AgreeFrom tree leaf net c walked → AgreesIn tree net (after_picks tree leaf net c (picks_of walked)).state line → AgreeFrom tree leaf net c (walked ++ line ∷ [])
unfolding AgreeFrom after_picks
agree_more tree leaf net c [] line agree one = (one, tt)
agree_more tree leaf net c (first ∷ walked) line agree one = (agree.0, agree_more tree leaf net (picked tree leaf net c first.pick) walked line agree.1 one)

pub same_line : (b b' : Bool) (net net' : Net) (line : TraceLine) → b ≡ b' → net ≡ net' → IsLineOf b net line → IsLineOf b' net' line
same_line b b' net net' line e f is = subst (λ k. IsLineOf b' k line) f (subst (λ k. IsLineOf k net line) e is)

-- the count of lines that pass a test, with one line more
count_more : (test : TraceLine → Bool) (walked : List TraceLine) (line : TraceLine) → count_by test (walked ++ line ∷ []) ≡ count_by test walked + cond (test line) 1 0
count_more test walked line = fold-append (λ (count : ℕ) (l : TraceLine). count + cond (test l) 1 0) 0 walked (line ∷ [])

fired_more : (walked : List TraceLine) (line : TraceLine) (said : Option ProcKind) → line.kind ≡ said → fired_of (walked ++ line ∷ []) ≡ fired_of walked + cond (is_kind said) 1 0
fired_more walked line said is = count_more (λ l. is_kind l.kind) walked line ∙ ap (λ k. fired_of walked + cond (is_kind k) 1 0) is

idle_more : (walked : List TraceLine) (line : TraceLine) (said : Option ProcKind) → line.kind ≡ said → idle_of (walked ++ line ∷ []) ≡ idle_of walked + cond (not (is_kind said)) 1 0
idle_more walked line said is = count_more (λ l. not (is_kind l.kind)) walked line ∙ ap (λ k. idle_of walked + cond (not (is_kind k)) 1 0) is

-- the counts with the line of a firing
pub counts_fired : (walked : List TraceLine) (line : TraceLine) (fired fired' idle : ℕ) (kind : ProcKind) → line.kind ≡ Some kind → fired' ≡ fired + 1 → IsCounted (record { lines = walked; fired = fired; idle = idle })
    → IsCounted (record { lines = walked ++ line ∷ []; fired = fired'; idle = idle })
counts_fired walked line fired fired' idle kind is one counts = record {
  fired = one ∙ ap (λ k. k + 1) counts.fired ∙ sym (fired_more walked line (Some kind) is);
  idle = counts.idle ∙ no_more (idle_of walked) ∙ sym (idle_more walked line (Some kind) is);
}
  where
    no_more : (k : ℕ) → k ≡ k + 0
    no_more k = omega arith

-- and with that of an idle pick
pub counts_idle : (walked : List TraceLine) (line : TraceLine) (fired idle : ℕ) → line.kind ≡ None → IsCounted (record { lines = walked; fired = fired; idle = idle })
    → IsCounted (record { lines = walked ++ line ∷ []; fired = fired; idle = idle + 1 })
counts_idle walked line fired idle is counts = record {
  fired = counts.fired ∙ no_more (fired_of walked) ∙ sym (fired_more walked line None is);
  idle = ap (λ k. k + 1) counts.idle ∙ sym (idle_more walked line None is);
}
  where
    no_more : (k : ℕ) → k ≡ k + 0
    no_more k = omega arith
