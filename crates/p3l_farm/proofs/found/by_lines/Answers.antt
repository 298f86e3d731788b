use Rattle.std.proofs.Common.{◌≡◌, ◌+◌, [], nat_eq, inl, inr, subst, sym, ap, ◌∙◌}
use Rattle.p3l_base.specs.Memory.{IfGiven}
use Rattle.p3l_farm.specs.Farm.{View}
use Rattle.p3l_template.specs.Numbered.{ordered}
use Rattle.p3l_farm.proofs.FarmSteps.{none_found, found_in_order}
use Rattle.p3l_farm.proofs.found.by_lines.Goals as goal
use Rattle.p3l_farm.proofs.found.by_lines.Goals.{then-not-lead_to-via-then-not-lead_to, then-not-lead_to-via-else-not-lead_to+then-not-all_are_rising}

pub returns-then-not-lead_to : goal.returns-then-not-lead_to
returns-then-not-lead_to c =
    let v : View = record { next = c.args.next; least = c.args.least; lines = c.args.lines.now; input = []; output = [] } in
    none_found v c.in_ok-bag.bag c.in_ok-bag.ensures (elim c.then-not-lead_to.branch [
      | then-not-lead_to-via-then-not-lead_to w ↦
          inl (ap (λ n. nat_eq (c.args.least + n) c.args.next) (sym c.len.ensures) ∙ sym c.lead_to.ensures ∙ w.if-not-lead_to.true)
      | then-not-lead_to-via-else-not-lead_to+then-not-all_are_rising w ↦ inr (sym w.all_are_rising.ensures ∙ w.if-not-all_are_rising.true)
    ])

pub returns : goal.returns
returns c =
    let v : View = record { next = c.args.next; least = c.args.least; lines = c.args.lines.now; input = []; output = [] } in
    subst (λ z. IfGiven c.in_order.result (λ pending. pending ≡ z))
    (ap (λ z. ordered z c.args.least) c.as_slice.ensures
    ∙ found_in_order v c.in_ok-bag.bag c.in_ok-bag.ensures
    (ap (λ n. nat_eq (c.args.least + n) c.args.next) (sym c.len.ensures) ∙ sym c.lead_to.ensures ∙ c.if-not-lead_to.false)
    (sym c.all_are_rising.ensures ∙ c.if-not-all_are_rising.false))
    c.in_order.ensures
