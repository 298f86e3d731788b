-- A program that is the same but for positions is accepted, means the same, and serves in the same time.
use Rattle.std.proofs.Common.{◌≡◌, ℕ, ap, sym, ◌∙◌, subst}
use Rattle.std.specs.Prelude.{slice_get}
use Rattle.p3l_ast.specs.Tree.{ProgramTree}
use Rattle.p3l_ast.specs.Unplaced.{program_unplaced}
use Rattle.p3l_skel.specs.declared.tree.Tree.{Tree}
use Rattle.p3l_skel.specs.Lawful.{IsLawfulTree}
use Rattle.p3l_cost.specs.declared.costs.Costs.{Costs}
use Rattle.p3l_model.specs.Optimal.{IsChosen}
use Rattle.p3l_model.specs.Service.{service}
use Rattle.p3l_position_laws.specs.Alike.{KeepsRules, ComesTo}
use Rattle.p3l_position_laws.proofs.Alike.{positions_are_nothing}
use Rattle.p3l_position_laws.proofs.Leaves.{one_meaning}
use Rattle.p3l_rewrite.specs.Rewriting.{IsAccepted, MeansTheSame, Serves, costs_for}

keeps_too : (other placed : ProgramTree) → program_unplaced placed ≡ program_unplaced other → (is : IsAccepted other) → KeepsRules placed is.whole
keeps_too other placed e is = subst (ComesTo placed) is.resolves (positions_are_nothing other placed e)

pub placed_means : (program other placed : ProgramTree) → program_unplaced placed ≡ program_unplaced other → MeansTheSame program other → MeansTheSame program placed
placed_means program other placed e same =
    let keeps : KeepsRules placed same.accepted.whole = keeps_too other placed e same.accepted in
    record {
      accepted = record { whole = keeps.whole; resolves = keeps.resolves; lawful = subst IsLawfulTree (sym keeps.tree_is) same.accepted.lawful };
      means = λ r is lawful items. one_meaning same.accepted.whole keeps.whole keeps.tree_is keeps.bodies_are items ∙ same.means r is lawful items;
      numbers = λ r is lawful k low. ap (λ (t : Tree). slice_get t.modules k) keeps.tree_is ∙ same.numbers r is lawful k low;
    }

pub placed_serves : (tree : Tree) (costs : Costs) (processors time : ℕ) (other placed : ProgramTree) → program_unplaced placed ≡ program_unplaced other → Serves tree costs processors other time → Serves tree costs processors placed time
placed_serves tree costs processors time other placed e serves =
    let keeps : KeepsRules placed serves.accepted.whole = keeps_too other placed e serves.accepted in
    let is : serves.accepted.whole.tree ≡ keeps.whole.tree = sym keeps.tree_is in
    record {
      accepted = record { whole = keeps.whole; resolves = keeps.resolves; lawful = subst IsLawfulTree is serves.accepted.lawful };
      counts = serves.counts;
      chosen = subst (λ t. IsChosen t (costs_for tree costs t) processors serves.counts) is serves.chosen;
      time_is = subst (λ t. time ≡ service t (costs_for tree costs t) serves.counts 0) is serves.time_is;
    }
