-- Look-ups in a map with text keys, by the bytes of a name.
use Rattle.std.proofs.Common.{◌≡◌, ℕ, List, [], ◌∷◌, cond, Some, Option, String, refl, ap, sym, ◌∙◌}
use Rattle.std.specs.BTreeMap as tree
use Rattle.std.specs.BTreeMap.{BTreeMap, is_at}
use Rattle.std.specs.Map.{lookup}
use Rattle.std.specs.Str.{bytes_eq}
use Rattle.std.specs.String.{string_bytes, string_cmp}
use Rattle.std.specs.declared.alloc.Global.{Global}
use Rattle.std.proofs.lemmas.Bool.{cond-true, cond-false, false_from_ne_true}
use Rattle.std.proofs.lemmas.Map.Text.{btree_map_updates_text, is_eq-slice_cmp, text_cmp}
use Rattle.std.proofs.lemmas.Slice.Eq.{bytes_eq-Decides}
use Rattle.p3l_io.specs.Content.{IsPut}
use Rattle.p3l_io.specs.MemFiles.{bytes_under, texts}

-- the names as bytes find what the map finds
pub bytes_under-texts : (name : List ℕ) (entries : List (String Global × List ℕ)) → bytes_under (texts entries) name ≡ lookup (is_at (text_cmp name)) entries
bytes_under-texts name [] = refl
bytes_under-texts name (entry ∷ entries) =
    ap (λ rest. cond (bytes_eq name (string_bytes entry.0)) (Some entry.1) rest) (bytes_under-texts name entries)
    ∙ ap (λ here. cond here (Some entry.1) (lookup (is_at (text_cmp name)) entries)) (sym (is_eq-slice_cmp name (string_bytes entry.0)))

-- an update of the map at a key puts the value under its name, and nowhere else
pub IsPut-updates : (key : String Global) (value : List ℕ) (m n : BTreeMap (String Global) (List ℕ)) → tree.UpdatesBy string_cmp (string_cmp key) m n (Some value) → (name bytes : List ℕ) → string_bytes key ≡ name → value ≡ bytes → IsPut (bytes_under (texts m.entries)) (bytes_under (texts n.entries)) name bytes
IsPut-updates key value m n updates name bytes named is =
    let old : List ℕ → Option (List ℕ) = bytes_under (texts m.entries) in
    let after : (q : List ℕ) → bytes_under (texts n.entries) q ≡ cond (bytes_eq (string_bytes key) q) (Some value) (old q) = λ q.
    bytes_under-texts q n.entries
    ∙ btree_map_updates_text (string_bytes key) m n (Some value) updates q
    ∙ ap (λ before. cond (bytes_eq (string_bytes key) q) (Some value) before) (sym (bytes_under-texts q m.entries)) in (
      after name ∙ cond-true _ _ _ ((bytes_eq-Decides (string_bytes key) name).1 named) ∙ ap Some is,
      λ other differs. after other ∙ cond-false _ _ _ (false_from_ne_true _ (λ same. differs (sym ((bytes_eq-Decides (string_bytes key) other).0 same) ∙ named))),
    )
