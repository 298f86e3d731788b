-- The net that is linked for a lawful tree is sound on its codes.
use Rattle.std.proofs.Common.{◌≡◌, ℕ, ℤ, ◌≤◌, List, refl, sym, ap, ◌∙◌, subst, arith}
use Rattle.p3l_base.specs.declared.outcome.Outcome.{Outcome}
use Rattle.p3l_skel.specs.declared.tree.Tree.{Tree}
use Rattle.p3l_skel.specs.Counts.{HasLawfulCounts}
use Rattle.p3l_skel.specs.Lawful.{IsLawfulTree, IsSubtree}
use Rattle.p3l_skel.specs.Numbers.{firings}
use Rattle.p3l_skel.specs.Tree.{GivesOuts, no_node, node_at}
use Rattle.p3l_check.specs.Resolving.{ResolvedTree}
use Rattle.p3l_compile.specs.Leaves.{AreBodies, body_leaf}
use Rattle.p3l_compile.proofs.Leaves.{have_codes, same_leaf}
use Rattle.p3l_firing.specs.declared.net.Net.{Net}
use Rattle.p3l_units.specs.Table.{Served, leaf}
use Rattle.p3l_units.specs.laws.Leaf.{gives_outs}
use Rattle.p3l_firing.specs.NetInvariants.{HasInvariants}
use Rattle.p3l_firing.specs.Typed.{IsTyped}
use Rattle.p3l_link.specs.Laws.{EveryNetHasInvariants}
use Rattle.p3l_link.specs.Net.{linked_net}
use Rattle.p3l_link.specs.Whole.{root_invariants}
use Rattle.p3l_run.specs.Network.{IsSound, network}
use Rattle.p3l_load.specs.declared.loaded.Loaded.{Loaded as LoadedImage}
use Rattle.p3l_program.specs.declared.plan.Allotted.{Allotted}
use Rattle.p3l_program.specs.Plan.{IsCompiled, network_in, network_of}
use Rattle.p3l_program.specs.Load.{IsReady}
use Rattle.p3l_program.specs.LoadImage.{IsReadyImage}

-- a linked net is typed and has invariants
pub sound : EveryNetHasInvariants → (tree : Tree) (leaf : ℕ → List ℤ → Outcome) (counts : List ℕ) (capacity : ℕ) (net : Net) (bound : ℕ) → IsLawfulTree tree → HasLawfulCounts tree counts → 1 ≤ capacity → GivesOuts tree leaf →
    net ≡ linked_net tree counts capacity → IsTyped tree net → bound ≡ firings tree counts → IsSound (network tree leaf net bound)
sound has_invariants tree leaf counts capacity net bound lawful fit room gives linked typed bound_is =
    let invariants = root_invariants (record { tree = tree; leaf = leaf }) counts in
    let whole = has_invariants (record { tree = tree; leaf = leaf }) counts capacity (record { lawful = lawful; fit = fit; room = omega arith; gives = gives }) in
    let here = subst (λ w. HasInvariants tree leaf w (firings tree counts) invariants) (sym linked) whole in
    record { typed = typed; has_invariants = (invariants, subst (λ n. HasInvariants tree leaf net n invariants) (sym bound_is) here); begins = tt }

-- a loaded network is run on its codes by a sound network, which is the one that was loaded
module _ (loaded : LoadedImage) (ready : IsReadyImage loaded) (units : Served) (units_are : units ≡ record { tree = loaded.tree; codes = loaded.codes }) (bound : ℕ) (bound_is : bound ≡ firings loaded.tree loaded.counts.list) where
  pub loaded_sound : EveryNetHasInvariants → IsSound (network loaded.tree (leaf units) loaded.net bound)
  loaded_sound has_invariants =
      let gives = subst (λ t. GivesOuts t (leaf units)) (ap (λ u. u.tree) units_are) (gives_outs units) in
      sound has_invariants loaded.tree (leaf units) loaded.counts.list loaded.cap loaded.net bound ready.lawful ready.fit ready.room gives ready.net_is ready.typed bound_is

  pub loaded_network : network loaded.tree (leaf units) loaded.net bound ≡ network_in loaded
  loaded_network =
      ap (λ u. network loaded.tree (leaf u) loaded.net bound) units_are
      ∙ ap (λ b. network loaded.tree (leaf (record { tree = loaded.tree; codes = loaded.codes })) loaded.net b) bound_is

-- an item has a word at least
pub some_words : (tree : Tree) → IsLawfulTree tree → 1 ≤ (node_at tree 0).ins
unfolding IsSubtree
some_words tree lawful = (lawful.nodes 0 no_node lawful.preorder.0).ins.0

-- the network that is linked on the codes of a program is the program's
pub compiled_network : (r : ResolvedTree) (tree : Tree) (leaf : ℕ → List ℤ → Outcome) (net : Net) (bound : ℕ) (counts : List ℕ) (capacity : ℕ) → tree ≡ r.tree → leaf ≡ body_leaf tree r.seqs →
    net ≡ linked_net tree counts capacity → bound ≡ firings tree counts → network tree leaf net bound ≡ network_of r counts capacity
compiled_network r tree leaf net bound counts capacity same leaves linked bound_is =
    ap (λ l. network tree l net bound) leaves
    ∙ ap (λ n. network tree (body_leaf tree r.seqs) n bound) linked
    ∙ ap (λ b. network tree (body_leaf tree r.seqs) (linked_net tree counts capacity) b) bound_is
    ∙ ap (λ t. network t (body_leaf t r.seqs) (linked_net t counts capacity) (firings t counts)) same

-- a program that was loaded is, linked under its counts, ready as an image is, and its network is the program's
module _ (loaded : Allotted) (capacity : ℕ) (ready : IsReady loaded) (room : 1 ≤ capacity) (net : Net) (linked : net ≡ linked_net loaded.program.tree loaded.choice.counts.list capacity) where
  abbrev pub linked_as : LoadedImage
  linked_as = record { cap = capacity; tree = loaded.program.tree; counts = loaded.choice.counts; codes = loaded.program.codes; net = net }

  bodies_of : (r : ResolvedTree) → IsCompiled r loaded.program → AreBodies loaded.program.tree r.seqs
  bodies_of r compiled = subst (λ t. AreBodies t r.seqs) (sym compiled.tree_is) compiled.bodies

  pub linked_ready : IsTyped loaded.program.tree net → IsReadyImage linked_as
  linked_ready typed =
      let compiled = ready.compiled in record {
        lawful = subst (λ t. IsLawfulTree t) (sym compiled.tree_is) compiled.lawful;
        fit = subst (λ t. HasLawfulCounts t loaded.choice.counts.list) (sym compiled.tree_is) ready.fit;
        codes = have_codes loaded.program.tree ready.r.seqs loaded.program.codes (bodies_of ready.r compiled) compiled.codes;
        net_is = linked;
        typed = typed;
        room = room;
      }

  pub linked_network : (r : ResolvedTree) → IsCompiled r loaded.program → network_in linked_as ≡ network_of r loaded.choice.counts.list capacity
  linked_network r compiled =
      compiled_network r loaded.program.tree _ net _ loaded.choice.counts.list capacity compiled.tree_is (same_leaf loaded.program.tree r.seqs loaded.program.codes (bodies_of r compiled) compiled.codes) linked refl
