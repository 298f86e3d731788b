-- The format of modules.
use Rattle.std.specs.Prelude.{ℕ, Bool, false, not, ◌&&◌, ◌||◌, List, [], ◌∷◌, length, is_some, bytes_eq, codes}
use Rattle.std.specs.List.{list_all}
use Rattle.p3l_lexer.specs.Mark.{keyword_of}
use Rattle.p3l_lexer.specs.Piece.{is_letter, is_word_byte}
use Rattle.p3l_skel.specs.declared.tree.ModuleKind.{ModuleKind}
use Rattle.p3l_skel.specs.declared.tree.ModuleKind.TheVariants.{Seq, Comp, Pipe, Farm, Map, Reduce, Loop}
use Rattle.p3l_skel.specs.declared.tree.ModuleInfo.{ModuleInfo}
use Rattle.p3l_format.specs.Format.{Format, within, both, pair, as_form, always, record_of}
use Rattle.p3l_format.specs.Numbers.{u8_in, block, one_of}
use Rattle.p3l_tree_format.specs.declared.version.Version.{Version}
use Rattle.p3l_tree_format.specs.Rescue.{rescue_format}

abbrev pub kinds : List ModuleKind
kinds = Seq ∷ Comp ∷ Pipe ∷ Farm ∷ Map ∷ Reduce ∷ Loop ∷ []

abbrev pub kind_number : ModuleKind → ℕ
kind_number Seq = 0
kind_number Comp = 1
kind_number Pipe = 2
kind_number Farm = 3
kind_number Map = 4
kind_number Reduce = 5
kind_number Loop = 6

abbrev pub kind_format : Format ℕ ModuleKind
kind_format = one_of kinds kind_number

-- letters, digits and `_`, the first of them no digit
abbrev pub is_word : List ℕ → Bool
is_word [] = false
is_word (b ∷ bs) = is_letter b && list_all is_word_byte bs

-- a word of the language that is no keyword; `rescue` was a name in the first images, and is one still
abbrev pub is_name : List ℕ → Bool
is_name text = is_word text && (bytes_eq text (codes "rescue") || not (is_some (keyword_of text)))

-- a length from 1 to 64, and a name of that many bytes
unfoldable pub name_format : Format ℕ (List ℕ)
name_format = as_form always (λ p. p.1) (λ name. (length name, name)) (pair (u8_in 1 64) (λ n. within is_name (block n)))

-- a module: its kind, its name, and its rescue number
unfoldable pub module_format : Version → Format ℕ ModuleInfo
module_format version = record_of
    (λ p. record { kind = p.0; name = p.1.0; rescue = p.1.1 })
    (λ m. (m.kind, (m.name, m.rescue)))
    (pair kind_format (λ kind. both name_format (rescue_format version kind)))
