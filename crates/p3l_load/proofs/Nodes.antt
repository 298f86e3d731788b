-- The tree of lawful nodes is in its ranges.
use Rattle.std.proofs.Common.{◌≡◌, ℕ, ℤ, zero, suc, ◌*◌, ◌<◌, ◌≤◌, true, false, List, [], ◌∷◌, length, get_or, Option, Some, None, refl, ap, ◌∙◌, subst, arith, eq-eqb}
use Rattle.std.specs.Prelude.{IfSome, IsSomeAnd, IsTrue, slice_get}
use Rattle.std.specs.List.{All, list_all}
use Rattle.std.proofs.Math.Nat.{le-mul_of_pos_right}
use Rattle.std.proofs.lemmas.List.Sums.{list_all-from_AllPass}
use Rattle.p3l_base.specs.declared.cut.Cut.{Cut}
use Rattle.p3l_skel.specs.declared.tree.Form.{Form}
use Rattle.p3l_skel.specs.declared.tree.Form.TheVariants.{Seq, Comp, Pipe, Farm, Map, Reduce, Loop}
use Rattle.p3l_skel.specs.declared.tree.ModuleKind.{ModuleKind}
use Rattle.p3l_skel.specs.declared.tree.ModuleKind.TheVariants as kinds
use Rattle.p3l_skel.specs.declared.tree.ModuleInfo.{ModuleInfo}
use Rattle.p3l_skel.specs.declared.tree.Node.{Node}
use Rattle.p3l_skel.specs.declared.tree.Tree.{Tree}
use Rattle.p3l_skel.specs.Counts.{IsCountInRange, workers_of}
use Rattle.p3l_skel.specs.Lawful.{HasKind, HasLawfulRescue, may_rescue, HasOnePart, HasTwoParts, IsLawfulForm, IsLawfulLoop, IsLawfulMap, IsLawfulReduce, IsLawfulTree, IsSize, kind_of}
use Rattle.p3l_skel.specs.Tree.{node_at, no_node}
use Rattle.p3l_skel.proofs.Depth.{IsSubtree-grows, lawful_at}
use Rattle.p3l_format.specs.Format.{as_form, pair, within, counted, coded, nothing, tagged}
use Rattle.p3l_format.specs.Numbers.{is_i64, i64_format, u8_format, u8_in, u32_in, u32_below, block, one_of}
use Rattle.p3l_format.specs.laws.Parts.{both_true}
use Rattle.p3l_tree_format.specs.Slice.{cut_format}
use Rattle.p3l_tree_format.specs.Module.{is_name, kind_format, name_format, module_format}
use Rattle.p3l_tree_format.specs.Form.{clause_format, form_format}
use Rattle.p3l_tree_format.specs.Tree.{indices_format, kind_at, kind_in, modules_format, node_format, nodes_format, tree_format}
use Rattle.p3l_tree_format.specs.declared.version.Version.TheVariants.{Two}
use Rattle.p3l_tree_format.specs.Rescue.{flag_format, number_format, rescue_format}
use Rattle.p3l_load.specs.Written.{HasName, HasRescueInRange}
use Rattle.p3l_load.proofs.Ranges.{first_of, after_first, fits_below, fits_byte, fits_in, list_fits, whole_fits}
use Rattle.p3l_load.proofs.Slices.{cut_fits}
use Rattle.p3l_load.proofs.Below.{count_range, parts_fit}

-- the default for an item past the end doesn't matter before it
same_at : (xs : List Node) (k : ℕ) (d e : Node) → k < length xs → get_or xs k d ≡ get_or xs k e
same_at [] k d e there = absurd (omega arith)
same_at (x ∷ xs) zero d e there = refl
same_at (x ∷ xs) (suc k) d e there = same_at xs k d e (omega (arith, there))

clause_fits : (P : ℕ → Type 0) (w : Option ℕ) → ((n : ℕ) → P n → (1 ≤ n) × (n ≤ 512)) → IfSome w P → clause_format.fits w ≡ true
unfolding clause_format as_form
clause_fits P None range has = fits_in 0 512 0 (omega arith) (omega arith) (omega arith)
clause_fits P (Some zero) range has = absurd (omega (arith, (range zero has).0))
clause_fits P (Some (suc n)) range has = fits_in 0 512 (suc n) (omega arith) (range (suc n) has).1 (omega (arith, (range (suc n) has).1))

module _ (tree : Tree) (lawful : IsLawfulTree tree) where
  map_fits : (w : Option ℕ) (cut : Cut) (ins outs : ℕ) (parts : List ℕ) → IsSize ins → IsSize outs → HasOnePart (IsLawfulMap tree cut ins outs) parts → cut_format.fits cut ≡ true
  map_fits w cut ins outs [] in_size out_size has = absurd has
  map_fits w cut ins outs (p ∷ (q ∷ ps)) in_size out_size has = absurd has
  map_fits w cut ins outs (p ∷ []) in_size out_size has =
      let part = lawful_at tree lawful p has.in_tree in
      cut_fits cut ins outs (node_at tree p).ins (node_at tree p).outs has.cuts has.in_sizes has.out_sizes in_size.1 out_size.1 part.ins.1 part.outs.1

  reduce_fits : (len elem ins outs : ℕ) (parts : List ℕ) → IsSize ins → IsSize outs → HasOnePart (IsLawfulReduce tree len elem ins outs) parts → IsSize len × IsSize elem
  reduce_fits len elem ins outs [] in_size out_size has = absurd has
  reduce_fits len elem ins outs (p ∷ (q ∷ ps)) in_size out_size has = absurd has
  reduce_fits zero elem ins outs (p ∷ []) in_size out_size has = absurd (omega (arith, in_size.0, has.elements))
  reduce_fits (suc len) elem ins outs (p ∷ []) in_size out_size has =
      let some : 0 < elem = omega (arith, out_size.0, has.result) in
      let more : suc len ≤ suc len * elem = le-mul_of_pos_right (suc len) some in
      ((omega arith, omega (arith, more, has.elements, in_size.1)), (omega (arith, some), omega (arith, has.result, out_size.1)))

  loop_fits : (turns tokens ins outs : ℕ) (parts : List ℕ) → HasTwoParts (IsLawfulLoop tree turns tokens ins outs) parts
      → ((u32_in 1 65536).fits turns ≡ true) × ((u32_in 1 1024).fits tokens ≡ true)
  loop_fits turns tokens ins outs [] has = absurd has
  loop_fits turns tokens ins outs (p ∷ []) has = absurd has
  loop_fits turns tokens ins outs (p ∷ (q ∷ (r ∷ ps))) has = absurd has
  loop_fits turns tokens ins outs (p ∷ (q ∷ [])) has =
      let limits = has.limits in (
        fits_in 1 65536 turns limits.some_turns limits.few_turns (omega (arith, limits.few_turns)),
        fits_in 1 1024 tokens limits.some_tokens limits.few_tokens (omega (arith, limits.few_tokens)),
      )

  form_fits : (form : Form) (ins outs : ℕ) (parts : List ℕ) → IsSize ins → IsSize outs → IfSome (workers_of form) (IsCountInRange form)
      → IsLawfulForm tree form ins outs parts → (form_format (kind_of form)).fits form ≡ true
  unfolding form_format as_form pair nothing
  form_fits Seq ins outs parts in_size out_size workers is = refl
  form_fits Comp ins outs parts in_size out_size workers is = refl
  form_fits Pipe ins outs parts in_size out_size workers is = refl
  form_fits (Farm w) ins outs parts in_size out_size workers is = clause_fits (IsCountInRange (Farm w)) w (count_range (Farm w)) workers
  form_fits (Map w cut) ins outs parts in_size out_size workers is =
      both_true (clause_format.fits w) (cut_format.fits cut) (clause_fits (IsCountInRange (Map w cut)) w (count_range (Map w cut)) workers)
      (map_fits w cut ins outs parts in_size out_size is)
  form_fits (Reduce w len elem) ins outs parts in_size out_size workers is =
      let sizes = reduce_fits len elem ins outs parts in_size out_size is in
      both_true (clause_format.fits w) _ (clause_fits (IsCountInRange (Reduce w len elem)) w (count_range (Reduce w len elem)) workers)
      (both_true ((u32_in 1 65536).fits len) ((u32_in 1 65536).fits elem)
      (fits_in 1 65536 len sizes.0.0 sizes.0.1 (omega (arith, sizes.0.1))) (fits_in 1 65536 elem sizes.1.0 sizes.1.1 (omega (arith, sizes.1.1))))
  form_fits (Loop turns tokens) ins outs parts in_size out_size workers is =
      let both = loop_fits turns tokens ins outs parts is in
      both_true ((u32_in 1 65536).fits turns) ((u32_in 1 1024).fits tokens) both.0 both.1

  module_inside : (xs : List ModuleInfo) (m : ℕ) (k : ModuleKind) → HasKind xs m k → m < length xs
  module_inside [] m k has = absurd has
  module_inside (x ∷ xs) zero k has = omega arith
  module_inside (x ∷ xs) (suc m) k has = omega (arith, module_inside xs m k has)

  kind_known : (found : Option ModuleInfo) (k : ModuleKind) → IsSomeAnd found (λ (info : ModuleInfo). info.kind ≡ k) → kind_in found ≡ k
  kind_known None k has = absurd has
  kind_known (Some info) k has = has

  node_fits : (k : ℕ) → k < length tree.nodes → (node_format tree.modules (length tree.nodes)).fits (node_at tree k) ≡ true
  unfolding node_format as_form pair
  node_fits k there =
      let node = node_at tree k in
      let is = lawful_at tree lawful k there in
      let home = module_inside tree.modules node.module (kind_of node.form) is.kind in
      let kind = kind_known (slice_get tree.modules node.module) (kind_of node.form) is.kind in
      let form : (form_format (kind_at tree.modules node.module)).fits node.form ≡ true =
      ap (λ k. (form_format k).fits node.form) kind ∙ form_fits node.form node.ins node.outs node.parts is.ins is.outs is.workers is.form in
      let parts = parts_fit tree lawful k there in
      both_true ((u32_below (length tree.modules)).fits node.module) _ (fits_below (length tree.modules) node.module home (omega (arith, home, lawful.few_modules)))
      (both_true ((u32_in 1 65536).fits node.ins) _ (fits_in 1 65536 node.ins is.ins.0 is.ins.1 (omega (arith, is.ins.1)))
      (both_true ((u32_in 1 65536).fits node.outs) _ (fits_in 1 65536 node.outs is.outs.0 is.outs.1 (omega (arith, is.outs.1)))
      (both_true ((form_format (kind_at tree.modules node.module)).fits node.form) ((indices_format (length tree.nodes)).fits node.parts) form
      (list_fits 0 (u32_below (length tree.nodes)) node.parts (omega arith) parts.1 parts.0))))

  pub some_nodes : 0 < length tree.nodes
  some_nodes = IsSubtree-grows 6 tree 0 (length tree.nodes) lawful.preorder

  some_modules : 0 < length tree.modules
  some_modules =
      let is = lawful_at tree lawful 0 some_nodes in
      omega (arith, module_inside tree.modules (node_at tree 0).module (kind_of (node_at tree 0).form) is.kind)

  nodes_fit : (nodes_format tree.modules).fits tree.nodes ≡ true
  unfolding nodes_format counted
  nodes_fit =
      both_true ((u32_in 1 128).fits (length tree.nodes)) _
      (fits_in 1 128 (length tree.nodes) (omega (arith, some_nodes)) lawful.few_nodes (omega (arith, lawful.few_nodes)))
      (list_all-from_AllPass (node_format tree.modules (length tree.nodes)).fits tree.nodes
      (λ k d there. subst (λ (n : Node). (node_format tree.modules (length tree.nodes)).fits n ≡ true) (same_at tree.nodes k no_node d there) (node_fits k there)))

kind_fits : (k : ModuleKind) → kind_format.fits k ≡ true
unfolding one_of coded u8_format
kind_fits kinds.Seq = refl
kind_fits kinds.Comp = refl
kind_fits kinds.Pipe = refl
kind_fits kinds.Farm = refl
kind_fits kinds.Map = refl
kind_fits kinds.Reduce = refl
kind_fits kinds.Loop = refl

name_some : (name : List ℕ) → is_name name ≡ true → 1 ≤ length name
name_some [] is = absurd cc
name_some (b ∷ bs) is = omega arith

name_fits : (name : List ℕ) → is_name name ≡ true → length name ≤ 64 → name_format.fits name ≡ true
unfolding name_format as_form pair within block
name_fits name is short =
    both_true ((u8_in 1 64).fits (length name)) _ (fits_byte 1 64 (length name) (name_some name is) short (omega (arith, short)))
    (both_true _ (is_name name) (eq-eqb (length name) (length name) refl) is)

-- a module whose fields are in their ranges
record IsInRange (info : ModuleInfo) : Type 0 where
  name : HasName info
  lawful : HasLawfulRescue info
  rescue : HasRescueInRange info

rescue_fits : (kind : ModuleKind) (rescue : Option ℤ) → IfSome rescue (λ n. IsTrue (may_rescue kind)) → IfSome rescue (λ n. is_i64 n ≡ true)
    → (rescue_format Two kind).fits rescue ≡ true
unfolding rescue_format flag_format number_format tagged within one_of coded u8_format as_form nothing
rescue_fits kind None may range = refl
rescue_fits kind (Some n) may range = both_true (may_rescue kind) (i64_format.fits n) may (whole_fits n range)

module_fits : (info : ModuleInfo) → IsInRange info → (module_format Two).fits info ≡ true
unfolding module_format as_form pair
module_fits info is =
    both_true (kind_format.fits info.kind) _ (kind_fits info.kind)
    (both_true (name_format.fits info.name) _ (name_fits info.name is.name.0 is.name.1) (rescue_fits info.kind info.rescue is.lawful is.rescue))

modules_fit : (modules : List ModuleInfo) → All HasName modules → All HasLawfulRescue modules → All HasRescueInRange modules → list_all (module_format Two).fits modules ≡ true
modules_fit [] names lawful rescues = refl
modules_fit (info ∷ modules) names lawful rescues =
    both_true ((module_format Two).fits info) (list_all (module_format Two).fits modules)
    (module_fits info (record {
      name = first_of HasName info modules names;
      lawful = first_of HasLawfulRescue info modules lawful;
      rescue = first_of HasRescueInRange info modules rescues;
    }))
    (modules_fit modules (after_first HasName info modules names) (after_first HasLawfulRescue info modules lawful) (after_first HasRescueInRange info modules rescues))

pub tree_fits : (tree : Tree) → IsLawfulTree tree → All HasName tree.modules → All HasRescueInRange tree.modules → (tree_format Two).fits tree ≡ true
unfolding tree_format as_form pair
tree_fits tree lawful names rescues =
    both_true ((modules_format Two).fits tree.modules) ((nodes_format tree.modules).fits tree.nodes)
    (list_fits 1 (module_format Two) tree.modules (omega (arith, some_modules tree lawful)) lawful.few_modules (modules_fit tree.modules names lawful.rescues rescues))
    (nodes_fit tree lawful)
