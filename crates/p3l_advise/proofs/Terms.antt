-- The parts of a node's time, where times are counted up to never.
use Rattle.std.proofs.Common.{◌≡◌, ℕ, ◌+◌, ◌*◌, ◌==◌, ◌<◌, Option, refl, sym, ap, ◌∙◌, arith}
use Rattle.std.specs.Prelude.{slice_index}
use Rattle.std.proofs.lemmas.Bool.Decides.{nat_tests}
use Rattle.p3l_base.specs.declared.cut.Cut.{Cut}
use Rattle.p3l_base.specs.Cut.{element_count}
use Rattle.p3l_skel.specs.declared.tree.Form.{Form}
use Rattle.p3l_skel.specs.declared.tree.Form.TheVariants.{Farm, Map, Reduce, Loop}
use Rattle.p3l_skel.specs.declared.tree.Node.{Node}
use Rattle.p3l_skel.specs.declared.tree.Tree.{Tree}
use Rattle.p3l_skel.specs.Tree.{node_at, part_at}
use Rattle.p3l_cost.specs.declared.costs.Costs.{Costs}
use Rattle.p3l_model.specs.declared.cost.NodeCost.{NodeCost}
use Rattle.p3l_model.specs.NodeCost.{never, timed, node_cost, node_cost_row}
use Rattle.p3l_model.specs.Service.{transfer, ticks, farm_ends, map_ends, loop_ends}
use Rattle.p3l_advise.specs.declared.bottleneck.Term.{Term}
use Rattle.p3l_advise.specs.Bottleneck.{at_once, ends_of, reduce_term, segments_term, term_row}

-- a time before never is another where it is that as far as it counts
same_timed : (time n : ℕ) → time < never → (time == timed n) ≡ (time == n)
same_timed time n early = grind (arith, nat_tests)

same_sum : (time n more : ℕ) → time < never → (time == timed n + more) ≡ (time == n + more)
same_sum time n more early = grind (arith, nat_tests)

at_once_by : (time r e reading ends : ℕ) (result : Term) → result ≡ at_once time r e → (time == r) ≡ (time == reading) → (time == e) ≡ (time == ends) → result ≡ at_once time reading ends
at_once_by time r e reading ends result is p q = rw (← p, ← q) is

reduce-timed : (costs : Costs) (time len elem operator m : ℕ) → time < never → reduce_term costs time len elem (timed operator) m ≡ reduce_term costs time len elem operator m
reduce-timed costs time len elem operator m early = rw (same_sum time operator (3 * transfer costs elem) early) refl

module _ (tree : Tree) (costs : Costs) (k : ℕ) (node : Node) (time count : ℕ) (cost : NodeCost) (is : node ≡ node_at tree k) (early : time < never) (costly : cost ≡ node_cost tree costs k) where
  cost_is : (form : Form) → node.form ≡ form → cost ≡ node_cost_row tree costs k form
  unfolding node_cost
  cost_is form f = costly ∙ ap (node_cost_row tree costs k) (ap (λ (n : Node). n.form) (sym is) ∙ f)

  pub farm_term : (w : Option ℕ) (reading ends : ℕ) (result : Term) → node.form ≡ Farm w → reading ≡ transfer costs node.ins → ends ≡ ends_of cost → result ≡ at_once time (2 * reading) ends → result ≡ term_row tree costs k node.form time count
  farm_term w reading ends result form read end made =
      let ends_are : ends ≡ timed (farm_ends tree costs k) = end ∙ ap ends_of (cost_is (Farm w) form) in
      let reads : reading ≡ transfer costs (node_at tree k).ins = read ∙ ap (λ (n : Node). transfer costs n.ins) is in
      let same : (time == ends) ≡ (time == farm_ends tree costs k) = ap (λ e. time == e) ends_are ∙ same_timed time (farm_ends tree costs k) early in
      rw form
      (at_once_by time (2 * reading) ends (2 * transfer costs (node_at tree k).ins) (farm_ends tree costs k) result made (ap (λ r. time == 2 * r) reads) same)

  pub map_term : (w : Option ℕ) (cut : Cut) (each scatters ends : ℕ) (result : Term) → node.form ≡ Map w cut → each ≡ (node_at tree (slice_index node.parts 0)).ins → scatters ≡ timed (transfer costs node.ins + cut.first * cut.second * transfer costs each) → ends ≡ ends_of cost → result ≡ at_once time scatters ends → result ≡ term_row tree costs k node.form time count
  map_term w cut each scatters ends result form part scatter end made =
      let ends_are : ends ≡ timed (map_ends tree costs k cut) = end ∙ ap ends_of (cost_is (Map w cut) form) in
      let reading : ℕ = transfer costs (node_at tree k).ins + element_count cut * transfer costs (node_at tree (part_at tree k 0)).ins in
      let parts : each ≡ (node_at tree (part_at tree k 0)).ins = part ∙ ap (λ (n : Node). (node_at tree (slice_index n.parts 0)).ins) is in
      let reads : scatters ≡ timed reading = scatter ∙ ap (λ (n : Node). timed (transfer costs n.ins + cut.first * cut.second * transfer costs each)) is ∙ ap (λ e. timed (transfer costs (node_at tree k).ins + cut.first * cut.second * transfer costs e)) parts in
      let first : (time == scatters) ≡ (time == reading) = ap (λ r. time == r) reads ∙ same_timed time reading early in
      let same : (time == ends) ≡ (time == map_ends tree costs k cut) = ap (λ e. time == e) ends_are ∙ same_timed time (map_ends tree costs k cut) early in
      rw form (at_once_by time scatters ends reading (map_ends tree costs k cut) result made first same)

  pub loop_term : (turns tokens head ends : ℕ) (result : Term) → node.form ≡ Loop turns tokens → head ≡ timed (2 * (slice_index costs.turns node.module * transfer costs node.ins)) → ends ≡ ends_of cost → result ≡ at_once time head ends → result ≡ term_row tree costs k node.form time count
  loop_term turns tokens head ends result form admits end made =
      let ends_are : ends ≡ timed (loop_ends tree costs k) = end ∙ ap ends_of (cost_is (Loop turns tokens) form) in
      let reading : ℕ = 2 * (slice_index costs.turns (node_at tree k).module * transfer costs (node_at tree k).ins) in
      let reads : head ≡ timed reading = admits ∙ ap (λ (n : Node). timed (2 * (slice_index costs.turns n.module * transfer costs n.ins))) is in
      let first : (time == head) ≡ (time == reading) = ap (λ r. time == r) reads ∙ same_timed time reading early in
      let same : (time == ends) ≡ (time == loop_ends tree costs k) = ap (λ e. time == e) ends_are ∙ same_timed time (loop_ends tree costs k) early in
      rw form (at_once_by time head ends reading (loop_ends tree costs k) result made first same)

  pub fold_term : (w : Option ℕ) (len elem : ℕ) (result : Term) → node.form ≡ Reduce w len elem → result ≡ segments_term cost costs time count → result ≡ term_row tree costs k node.form time count
  fold_term w len elem result form made =
      let by_row : result ≡ reduce_term costs time len elem (timed (ticks tree costs (part_at tree k 0))) count = made ∙ ap (λ (c : NodeCost). segments_term c costs time count) (cost_is (Reduce w len elem) form) in
      rw form (by_row ∙ reduce-timed costs time len elem (ticks tree costs (part_at tree k 0)) count early)
