-- Places at which the bytes of trees are at fault, by the fields of spellings.
use Rattle.std.proofs.Common.{◌≡◌, ℕ, zero, suc, ℤ, pos, Bool, true, false, eqb, List, [], ◌∷◌, ◌++◌, length, Some, None, refl, ap, ◌∙◌}
use Rattle.std.specs.Prelude.{is_some, unwrap_or}
use Rattle.std.proofs.lemmas.Bool.{eqb-true}
use Rattle.p3l_base.specs.Limits.{most_nodes, most_sizes, most_tokens, most_turns, most_words, most_workers}
use Rattle.p3l_base.specs.declared.slice.Place.TheVariants.{Rest}
use Rattle.p3l_skel.specs.declared.tree.Form.TheVariants as form
use Rattle.p3l_skel.specs.declared.tree.ModuleInfo.{ModuleInfo}
use Rattle.p3l_skel.specs.declared.tree.ModuleKind.{ModuleKind}
use Rattle.p3l_skel.specs.declared.tree.ModuleKind.TheVariants as kind
use Rattle.p3l_format.specs.Format.{Format, pair, within}
use Rattle.p3l_format.specs.Numbers.{block, one_of, u32_format, u8_in}
use Rattle.p3l_format.specs.Places.{IsPlaced, Piece}
use Rattle.p3l_format.specs.laws.Numbers.{lawful_one_of}
use Rattle.p3l_format.specs.laws.Parts.{first_true}
use Rattle.p3l_format.specs.laws.Places.{CanTurn, HasAll, copies, copies_len, has_all, no_field, one_block, one_coded, one_of_one, one_u32, one_within, piece_of, IsOne, placed_both, placed_counted, placed_form, placed_i64, placed_nothing, placed_one, placed_one_of, placed_pair, placed_record, placed_tagged, placed_u32_below, placed_u32_in, placed_u8_in}
use Rattle.p3l_tree_format.specs.declared.version.Version.{Version}
use Rattle.p3l_tree_format.specs.declared.version.Version.TheVariants.{One, Two}
use Rattle.p3l_tree_format.specs.Slice.{places, place_number, place_format, dim_format, slice_format, slices_format, cut_format}
use Rattle.p3l_tree_format.specs.Version.{version_number, version_of, version_format}
use Rattle.p3l_tree_format.specs.Rescue.{flags, flag_number, flag_format, number_format, rescue_format}
use Rattle.p3l_tree_format.specs.Module.{kinds, kind_number, kind_format, is_name, name_format, module_format}
use Rattle.p3l_tree_format.specs.Form.{clause_of, clause_format, form_format}
use Rattle.p3l_tree_format.specs.Tree.{indices_format, node_format, nodes_format, modules_format, tree_format, counts_format}
use Rattle.p3l_tree_format.specs.laws.Slice.{lawful_place}
use Rattle.p3l_tree_format.specs.laws.Version.{lawful_version}
use Rattle.p3l_tree_format.specs.laws.Rescue.{only_none, some_there, number_has, flag_there}
use Rattle.p3l_tree_format.specs.laws.Module.{lawful_kind, name_back}
use Rattle.p3l_tree_format.specs.laws.Form.{clause_back, clause_fine, clause_there, only_seq, only_comp, only_pipe, farm_there, map_there, reduce_there, loop_there}

-- ---- slices and cuts

pub placed_place : IsPlaced place_format
placed_place = placed_one_of places place_number lawful_place Rest

pub placed_dim : IsPlaced dim_format
unfolding dim_format
placed_dim = placed_record _ _ _ (λ _. refl) (λ _. refl) (placed_both _ _ (placed_u32_in 1 most_words) placed_place)

pub placed_slice : IsPlaced slice_format
unfolding slice_format
placed_slice = placed_record _ _ _ (λ _. refl) (λ _. refl) (placed_both _ _ (placed_u32_in 0 65535) (placed_counted _ _ (placed_u8_in 0 most_sizes) (λ _. placed_dim)))

pub placed_slices : IsPlaced slices_format
placed_slices = placed_counted _ _ (placed_u32_in 0 4294967295) (λ _. placed_slice)

pub placed_cut : IsPlaced cut_format
unfolding cut_format
placed_cut = placed_record _ _ _ (λ _. refl) (λ _. refl) (placed_both _ _ (placed_u32_in 1 most_words) (placed_both _ _ (placed_u32_in 1 most_words) (placed_both _ _ placed_slices placed_slices)))

-- ---- versions

one_version : IsOne version_format
unfolding version_format
one_version = one_coded version_of version_number u32_format lawful_version Two one_u32

pub placed_version : IsPlaced version_format
placed_version = placed_one version_format one_version

-- ---- rescue numbers

one_flag : (kind : ModuleKind) → IsOne (flag_format kind)
unfolding flag_format
one_flag kind = one_within _ (one_of flags flag_number) (one_of_one flags flag_number (lawful_one_of flags flag_number refl flag_there) false)

placed_flag : (kind : ModuleKind) → IsPlaced (flag_format kind)
placed_flag kind = placed_one (flag_format kind) (one_flag kind)

unfoldable placed_number : (has : Bool) → IsPlaced (number_format has)
unfolding number_format
placed_number false = placed_nothing _ _ refl only_none
placed_number true = placed_form _ _ _ _ (record { back = λ _ _. refl; fine = λ _ _. refl; there = some_there }) placed_i64 (has_all Some _ _ (λ _. refl))

number_turns : CanTurn is_some number_format placed_number
unfolding placed_number placed_nothing placed_form
number_turns false w = (None, refl, refl)
number_turns true w = (Some (unwrap_or w (pos 0)), refl, refl)

pub placed_rescue : (version : Version) (kind : ModuleKind) → IsPlaced (rescue_format version kind)
unfolding rescue_format
placed_rescue One kind = placed_nothing _ _ refl only_none
placed_rescue Two kind = placed_tagged _ _ _ (placed_flag kind) placed_number number_has number_turns false

-- ---- modules

pub placed_kind : IsPlaced kind_format
placed_kind = placed_one_of kinds kind_number lawful_kind kind.Seq

-- a length, and a name of that many bytes
unfoldable placed_text : IsPlaced (pair (u8_in 1 64) (λ n. within is_name (block n)))
placed_text = placed_pair _ _ (placed_u8_in 1 64) (λ n. placed_one (within is_name (block n)) (one_within is_name (block n) (one_block n)))

-- a text of n bytes that is a name
abbrev name_of_len : ℕ → Format ℕ (List ℕ)
name_of_len n = within is_name (block n)

len_of_name : (n : ℕ) (text : List ℕ) → (name_of_len n).fits text ≡ true → length text ≡ n
unfolding within block
len_of_name n text fits = eqb-true _ _ (first_true (eqb (length text) n) (is_name text) fits)

-- the fields of a name: its length, and its text
abbrev text_fields : ℕ → List ℕ → List Piece
text_fields n text = piece_of (u8_in 1 64) n ∷ piece_of (name_of_len n) text ∷ []

text_all : (n : ℕ) (text : List ℕ) (fs more : List Piece) (g : Piece) → text_fields n text ≡ fs ++ g ∷ more → g.right ≡ true → (b : List ℕ) × (others : List Piece) × (text_fields (length b) b ≡ fs ++ g ∷ others)
text_all n text [] more g has right =
    let other = copies n 0 in
    let same : piece_of (u8_in 1 64) n ≡ g = cc in
    (other, piece_of (name_of_len (length other)) other ∷ [], ap (λ (p : Piece). p ∷ piece_of (name_of_len (length other)) other ∷ []) (ap (piece_of (u8_in 1 64)) (copies_len n 0) ∙ same))
text_all n text (f ∷ []) more g has right =
    let same : piece_of (name_of_len n) text ≡ g = cc in
    let fits : (name_of_len n).fits text ≡ true = ap (λ (p : Piece). p.right) same ∙ right in
    (text, more, ap (λ (m : ℕ). text_fields m text) (len_of_name n text fits) ∙ has)
text_all n text (f ∷ h ∷ fs) more g has right =
    let none : [] ≡ fs ++ g ∷ more = cc in
    absurd (no_field fs more g none)

text_has_all : HasAll (λ (name : List ℕ). (length name, name)) placed_text.fields
unfolding placed_text placed_pair
text_has_all a fs more g has right = text_all a.0 a.1 fs more g has right

pub placed_name : IsPlaced name_format
unfolding name_format
placed_name = placed_form _ _ _ _ (record { back = name_back; fine = λ _ _. refl; there = λ _ _. refl }) placed_text text_has_all

pub placed_module : (version : Version) → IsPlaced (module_format version)
unfolding module_format
placed_module version = placed_record _ _ _ (λ _. refl) (λ _. refl) (placed_pair _ _ placed_kind (λ kind. placed_both _ _ placed_name (placed_rescue version kind)))

-- ---- forms

pub placed_clause : IsPlaced clause_format
unfolding clause_format
placed_clause = placed_form _ _ _ _ (record { back = λ n _. clause_back n; fine = λ n _. clause_fine n; there = clause_there }) (placed_u32_in 0 most_workers) (has_all clause_of _ _ clause_back)

pub placed_form_of : (k : ModuleKind) → IsPlaced (form_format k)
unfolding form_format
placed_form_of kind.Seq = placed_nothing _ _ refl only_seq
placed_form_of kind.Comp = placed_nothing _ _ refl only_comp
placed_form_of kind.Pipe = placed_nothing _ _ refl only_pipe
placed_form_of kind.Farm = placed_form _ _ _ _ (record { back = λ _ _. refl; fine = λ _ _. refl; there = farm_there }) placed_clause (has_all (λ w. form.Farm w) _ _ (λ _. refl))
placed_form_of kind.Map = placed_form _ _ _ _ (record { back = λ _ _. refl; fine = λ _ _. refl; there = map_there }) (placed_both _ _ placed_clause placed_cut) (has_all (λ p. form.Map p.0 p.1) _ _ (λ _. refl))
placed_form_of kind.Reduce = placed_form _ _ _ _ (record { back = λ _ _. refl; fine = λ _ _. refl; there = reduce_there })
    (placed_both _ _ placed_clause (placed_both _ _ (placed_u32_in 1 most_words) (placed_u32_in 1 most_words))) (has_all (λ p. form.Reduce p.0 p.1.0 p.1.1) _ _ (λ _. refl))
placed_form_of kind.Loop = placed_form _ _ _ _ (record { back = λ _ _. refl; fine = λ _ _. refl; there = loop_there }) (placed_both _ _ (placed_u32_in 1 most_turns) (placed_u32_in 1 most_tokens)) (has_all (λ p. form.Loop p.0 p.1) _ _ (λ _. refl))

-- ---- trees

pub placed_indices : (limit : ℕ) → IsPlaced (indices_format limit)
placed_indices limit = placed_counted _ _ (placed_u32_in 0 4294967295) (λ _. placed_u32_below limit)

pub placed_node : (modules : List ModuleInfo) (nodes : ℕ) → IsPlaced (node_format modules nodes)
unfolding node_format
placed_node modules nodes = placed_record _ _ _ (λ _. refl) (λ _. refl)
    (placed_pair _ _ (placed_u32_below (length modules)) (λ m.
    placed_both _ _ (placed_u32_in 1 most_words) (placed_both _ _ (placed_u32_in 1 most_words) (placed_both _ _ (placed_form_of _) (placed_indices nodes)))))

pub placed_nodes : (modules : List ModuleInfo) → IsPlaced (nodes_format modules)
unfolding nodes_format
placed_nodes modules = placed_counted _ _ (placed_u32_in 1 most_nodes) (λ nodes. placed_node modules nodes)

pub placed_modules : (version : Version) → IsPlaced (modules_format version)
placed_modules version = placed_counted _ _ (placed_u32_in 1 4294967295) (λ _. placed_module version)

pub placed_tree : (version : Version) → IsPlaced (tree_format version)
unfolding tree_format
placed_tree version = placed_record _ _ _ (λ _. refl) (λ _. refl) (placed_pair _ _ (placed_modules version) placed_nodes)

pub placed_counts : IsPlaced counts_format
placed_counts = placed_counted _ _ (placed_u32_in 0 4294967295) (λ _. placed_u32_in 1 most_workers)
