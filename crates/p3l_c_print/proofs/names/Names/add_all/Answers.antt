use Rattle.std.proofs.Common.{◌≡◌, ℕ, ◌+◌, ◌≤◌, List, drop, sym, ap, ◌∙◌}
use Rattle.p3l_types.specs.Constants.{Constants}
use Rattle.p3l_c_print.specs.declared.names.VariablePlace.{VariablePlace}
use Rattle.p3l_c_print.specs.Name.{Names, all_entered, entered}
use Rattle.p3l_c_print.proofs.Places.{entered_step, entered_end}
use Rattle.p3l_c_print.proofs.names.Names.add_all.Goals as goal

names : List (List ℕ × VariablePlace) → Constants → ℕ → Names
names places constants home = record { places = places; constants = constants; home = home }

pub loop-number-preserved : goal.loop-number-preserved
loop-number-preserved c =
    let vars = c.args.vars.now in
    let number = c.loop-number.number in
    let kind = c.args.kind in
    let item = c.index-vars-number.result in
    let before = c.loop-number.self.places in
    let entry : c.enter.new.self.places ≡ entered kind number item before = ap (λ (n : Names). n.places) c.in_ok-enter.ensures in
    record {
      places = ap (all_entered kind (number + 1) (drop (number + 1) vars)) entry ∙ entered_step kind vars number item before c.loop-number-test.true c.index-vars-number.is ∙ c.loop-number.invariant.places;
      constants = ap (λ (n : Names). n.constants) c.in_ok-enter.ensures ∙ c.loop-number.invariant.constants;
      home = ap (λ (n : Names). n.home) c.in_ok-enter.ensures ∙ c.loop-number.invariant.home;
    }

pub returns : goal.returns
unfolding names
returns c =
    let i = c.loop-number.invariant in
    let all = sym (entered_end c.args.kind c.args.vars.now c.loop-number.number c.loop-number.self.places c.loop-number-test.false) ∙ i.places in
    ap (λ places. names places c.loop-number.self.constants c.loop-number.self.home) all
    ∙ ap (λ constants. names (all_entered c.args.kind 0 c.args.vars.now c.args.self.now.places) constants c.loop-number.self.home) i.constants
    ∙ ap (names (all_entered c.args.kind 0 c.args.vars.now c.args.self.now.places) c.args.self.now.constants) i.home
