-- The loop over the processes, step by step.
use Rattle.std.proofs.Common.{◌≡◌, ℕ, false, true, ◌+◌, ◌<◌, ◌≤◌, Some, List, [], length, get_or, slice_get, sym, ap, ◌∙◌, subst, arith, inl, inr}
use Rattle.std.proofs.lemmas.Bool.{cases_lt}
use Rattle.std.proofs.lemmas.List.{get_or_read}
use Rattle.std.proofs.lemmas.Option.{slice_get-get_or}
use Rattle.p3l_skel.specs.declared.tree.Tree.{Tree}
use Rattle.p3l_firing.specs.declared.net.Net.{Net}
use Rattle.p3l_firing.specs.declared.process.Proc.{Proc}
use Rattle.p3l_firing.specs.Shot.{own_saved_at}
use Rattle.p3l_firing.specs.declared.shot.Own.{Own}
use Rattle.p3l_firing.specs.declared.shot.Shot.{Shot}
use Rattle.p3l_net.proofs.Standing.{get_inside}
use Rattle.p3l_fitting.specs.Decided.{OwnFits}
use Rattle.p3l_template.specs.declared.width.Width.{Width}

pub never_true : false ≡ true → ⊥
never_true e = cc

module _ (tree : Tree) (net : Net) (row : List Width) (shot : Shot) where
  -- the saved states of the processes before number n fit
  abbrev pub FitBefore : ℕ → Type 0
  FitBefore n =
      (p : ℕ) → p < n → (q : Proc) → slice_get net.procs p ≡ Some q → OwnFits q.kind tree net row shot q (own_saved_at shot p)

  abbrev pub AllFit : Type 0
  AllFit = (p : ℕ) (q : Proc) → slice_get net.procs p ≡ Some q → OwnFits q.kind tree net row shot q (own_saved_at shot p)

  module _ (same : length shot.owns ≡ length net.procs) (i : ℕ) (q : Proc) (o : Own) (qs : List Proc) (os : List Own)
      (qs_are : qs ≡ net.procs) (os_are : os ≡ shot.owns) (q_is : q ≡ get_or qs i q) (o_is : o ≡ get_or os i o) (there : i < length qs) where
    q_there : slice_get net.procs i ≡ Some q
    q_there =
        let e : q ≡ get_or net.procs i q = q_is ∙ ap (λ z. get_or z i q) qs_are in
        slice_get-get_or net.procs i q (omega (arith, there, ap length qs_are)) ∙ ap Some (sym e)

    own_is : o ≡ own_saved_at shot i
    own_is =
        let some : i < length os = omega (arith, there, same, ap length qs_are, ap length os_are) in
        get_or_read os i o some o_is (record { number = 0; held = [] }) ∙ ap (λ z. get_or z i (record { number = 0; held = [] })) os_are

    pub one_of_all : AllFit → OwnFits q.kind tree net row shot q o
    one_of_all all = subst (OwnFits q.kind tree net row shot q) (sym own_is) (all i q q_there)

    pub one_more : FitBefore i → OwnFits q.kind tree net row shot q o → FitBefore (i + 1)
    one_more before here p below r e = elim (cases_lt p i) [
      | inl earlier ↦ before p earlier r e
      | inr later ↦
          let p_is : i ≡ p = omega (arith, below, later) in
          let at : slice_get net.procs i ≡ Some r = subst (λ z. slice_get net.procs z ≡ Some r) (sym p_is) e in
          let r_is : q ≡ r = cc (q_there, at) in
          subst (λ z. OwnFits r.kind tree net row shot r (own_saved_at shot z)) p_is
          (subst (λ (z : Proc). OwnFits z.kind tree net row shot z (own_saved_at shot i)) r_is
          (subst (OwnFits q.kind tree net row shot q) own_is here))
    ]

  pub all_fit : (i : ℕ) (qs : List Proc) → qs ≡ net.procs → length qs ≤ i → FitBefore i → AllFit
  all_fit i qs are past before p q e =
      before p (let inside = get_inside net.procs p q e in omega (arith, inside, past, ap length are)) q e
