-- Outcomes that a run emits after those emitted before it.
use Rattle.std.proofs.Common.{◌≡◌, ℕ, true, false, List, [], ◌∷◌, ◌++◌, map, refl, sym, ap, ◌∙◌, append_assoc}
use Rattle.std.proofs.lemmas.List.{append-nil}
use Rattle.p3l_base.specs.declared.outcome.Outcome.{Outcome}
use Rattle.p3l_base.specs.declared.outcome.Outcome.TheVariants.{Value, Trapped}
use Rattle.p3l_skel.specs.declared.tree.Tree.{Tree}
use Rattle.p3l_skel.specs.Item.{item}
use Rattle.p3l_firing.specs.declared.net.Net.{Net}
use Rattle.p3l_firing.specs.Token.{has_trap}
use Rattle.p3l_firing.specs.Nodes.{Leaf}
use Rattle.p3l_firing.specs.State.{State}
use Rattle.p3l_firing.specs.Run.{Course, run_from}
use Rattle.p3l_firing.specs.Outcomes.{up_to_first_trap, IsPrefixOf}
use Rattle.p3l_firing.specs.NetInvariants.{Invariants, whole, HasInvariants}
use Rattle.p3l_firing.specs.Orderly.{Emits, left_from}
use Rattle.p3l_firing.proofs.EarlierLaw.{run-earlier}
use Rattle.p3l_firing.proofs.OrderlyLaw.{kept_run, kept_begins, kept_finished}

up_to-after : (es rest : List Outcome) → has_trap es ≡ false → up_to_first_trap (es ++ rest) ≡ es ++ up_to_first_trap rest
unfolding up_to_first_trap has_trap
up_to-after [] rest h = refl
up_to-after (Value words ∷ es) rest h = ap (λ z. Value words ∷ z) (up_to-after es rest h)
up_to-after (Trapped trap ∷ es) rest h = cc

untrapped_is : (es : List Outcome) → has_trap es ≡ false → up_to_first_trap es ≡ es
unfolding up_to_first_trap has_trap
untrapped_is [] h = refl
untrapped_is (Value words ∷ es) h = ap (λ z. Value words ∷ z) (untrapped_is es h)
untrapped_is (Trapped trap ∷ es) h = cc

append_same : (es xs ys : List Outcome) → es ++ xs ≡ es ++ ys → xs ≡ ys
append_same [] xs ys h = h
append_same (e ∷ es) xs ys h = let k : es ++ xs ≡ es ++ ys = cc in append_same es xs ys k

module _ (tree : Tree) (leaf : Leaf) (net : Net) (firings : ℕ) (invariants : Invariants) (laws : HasInvariants tree leaf net firings invariants)
    (s : State) (picks : List ℕ) (orderly : invariants.orderly s ≡ true) (untrapped : has_trap s.emitted ≡ false) where
  abbrev from_none : State
  from_none = record s { emitted = [] }

  abbrev more : List Outcome
  more = (run_from tree leaf net from_none picks).state.emitted

  abbrev to_come : List Outcome
  to_come = invariants.to_come s ++ map (item tree leaf 0) s.unsent

  abbrev end : Course
  end = run_from tree leaf net s picks

  emitted_is : end.state.emitted ≡ s.emitted ++ more
  emitted_is =
      ap (λ es. (run_from tree leaf net (record s { emitted = es }) picks).state.emitted) (sym (append-nil s.emitted))
      ∙ ap (λ (c : Course). c.state.emitted) (run-earlier s.emitted tree leaf net untrapped from_none picks)

  more_begins : IsPrefixOf end.state.emitted (up_to_first_trap (s.emitted ++ to_come)) → IsPrefixOf more (up_to_first_trap to_come)
  more_begins h = (
    h.0,
    append_same s.emitted _ _
        (sym (append_assoc s.emitted more h.0) ∙ ap (λ z. z ++ h.0) (sym emitted_is) ∙ h.1 ∙ up_to-after s.emitted to_come untrapped),
  )

  more_all : end.state.emitted ≡ up_to_first_trap (s.emitted ++ to_come) → more ≡ up_to_first_trap to_come
  more_all h = append_same s.emitted _ _ (sym emitted_is ∙ h ∙ up_to-after s.emitted to_come untrapped)

  pub emits : Emits tree net (left_from tree leaf invariants s) s end.state
  unfolding whole
  emits =
      let k = kept_run tree leaf net firings invariants laws s orderly picks in
      let emitted = untrapped_is s.emitted untrapped in
      record {
        outcomes = more;
        emitted = emitted_is;
        begins = more_begins (kept_begins tree leaf net firings invariants laws s end k emitted);
        all = λ stuck. more_all (kept_finished tree leaf net firings invariants laws s end k emitted stuck);
      }
