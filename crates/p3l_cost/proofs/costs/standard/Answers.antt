use Rattle.std.proofs.Common.{◌≡◌, ◌+◌, ◌++◌, List, [], ◌∷◌, ℕ, length, get_or, sym, ◌∙◌, ap, ap₂, subst, arith, map}
use Rattle.std.specs.List.{range_with_len}
use Rattle.std.proofs.lemmas.List.{map_more, map_push, take_all}
use Rattle.p3l_base.proofs.Pieces.{range_append}
use Rattle.p3l_skel.specs.declared.tree.ModuleInfo.{ModuleInfo}
use Rattle.p3l_cost.specs.declared.costs.Costs.{Costs}
use Rattle.p3l_cost.specs.Costs.{AreCostsOf}
use Rattle.p3l_cost.specs.Standard.{standard_costs, standard_ticks, full_turns}
use Rattle.p3l_cost.proofs.Turns.{standard_lawful}
use Rattle.p3l_cost.proofs.costs.standard.Goals as goal

pub loop-home-preserved : goal.loop-home-preserved
loop-home-preserved c =
    let tick = λ (m : ModuleInfo). standard_ticks m.kind in
    let modules = c.args.tree.now.modules in
    let m = c.index-as_slice-home.result in
    let here : standard_ticks (get_or c.as_slice.result.now c.loop-home.home m).kind ≡ tick (get_or modules c.loop-home.home m) = ap (λ (ms : List ModuleInfo). tick (get_or ms c.loop-home.home m)) c.as_slice.ensures in
    let last : range_with_len (0 + c.loop-home.home) 1 ≡ c.loop-home.home ∷ [] = ap (λ (n : ℕ). n ∷ []) (omega arith) in
    let turn : c.full_turns.result ≡ full_turns c.args.tree.now.nodes c.loop-home.home = c.full_turns.ensures ∙ rw c.as_slice-in-loop-home.ensures (ap (full_turns c.args.tree.now.nodes) (omega arith)) in
    record {
      ticks = c.in_ok-push.ensures.ok ∙ (ap₂ (λ (xs : List ℕ) (x : ℕ). xs ++ x ∷ []) c.loop-home.invariant.ticks (c.standard_ticks.ensures ∙ here) ∙ sym (map_more tick modules c.loop-home.home m (omega arith)));
      turns = c.in_ok-push-2.ensures.ok ∙ (ap₂ (λ (xs : List ℕ) (x : ℕ). xs ++ x ∷ []) c.loop-home.invariant.turns turn
          ∙ (sym (map_push (full_turns c.args.tree.now.nodes) (range_with_len 0 c.loop-home.home) c.loop-home.home) ∙ sym (ap (map (full_turns c.args.tree.now.nodes)) (range_append 0 c.loop-home.home 1 ∙ ap (λ (xs : List ℕ). range_with_len 0 c.loop-home.home ++ xs) last))));
    }

are : (c : goal.After-loop-home) → let made : Costs = record { setup = 10; word = 1; ticks = c.loop-home.ticks; turns = c.loop-home.turns } in made ≡ standard_costs c.args.tree.now
are c =
    let modules = c.args.tree.now.modules in
    let all : length modules ≡ c.loop-home.home = omega (arith, c.loop-home-test.false, c.len-home-end.ensures) in
    let ticks : c.loop-home.ticks ≡ map (λ (m : ModuleInfo). standard_ticks m.kind) modules = c.loop-home.invariant.ticks ∙ ap (map (λ (m : ModuleInfo). standard_ticks m.kind)) (take_all c.loop-home.home modules (omega arith)) in
    let turns : c.loop-home.turns ≡ map (full_turns c.args.tree.now.nodes) (range_with_len 0 (length modules)) = rw all c.loop-home.invariant.turns in
    ap₂ (λ (a b : List ℕ). let made : Costs = record { setup = 10; word = 1; ticks = a; turns = b } in made) ticks turns

pub returns-clause-costs : goal.returns-clause-costs
returns-clause-costs c = are c

pub returns-clause-lawful : goal.returns-clause-lawful
returns-clause-lawful c = subst (AreCostsOf c.args.tree.now) (sym (are c)) (standard_lawful c.args.tree.now c.requires)
