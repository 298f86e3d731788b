-- The costs that a cost file gives a tree's modules, by the TOML data of its text.
use Rattle.std.specs.Prelude.{◌≡◌, ◌⊎◌, ℕ, ℤ, pos, negsuc, ◌+◌, ◌==◌, ◌&&◌, Bool, true, false, nat_le, List, [], ◌∷◌, ◌++◌, Option, Some, None, unwrap_or, Result, Ok, Err, bytes_eq, codes, if◌then◌else◌, IsUtf8}
use Rattle.std.specs.List.{list_any}
use Rattle.std.specs.Map.{lookup}
use Rattle.std.specs.Option.{option_map_or}
use Rattle.toml.specs.Data.{Data, integer, table, Members, no_members, member, get_member}
use Rattle.toml.specs.Parse.{parse_document}
use Rattle.p3l_skel.specs.declared.tree.ModuleInfo.{ModuleInfo}
use Rattle.p3l_skel.specs.declared.tree.ModuleKind.{ModuleKind}
use Rattle.p3l_skel.specs.declared.tree.ModuleKind.TheVariants as kind
use Rattle.p3l_skel.specs.declared.tree.Node.{Node}
use Rattle.p3l_skel.specs.declared.tree.Tree.{Tree}
use Rattle.p3l_cost.specs.declared.costs.Costs.{Costs}
use Rattle.p3l_cost.specs.declared.refusal.CostRefusal.{CostRefusal}
use Rattle.p3l_cost.specs.declared.refusal.CostRefusal.TheVariants.{NotToml, BadKey, BadValue, Missing, NoMemory}
use Rattle.p3l_cost.specs.declared.section.Section.{Section}
use Rattle.p3l_cost.specs.declared.section.Section.TheVariants.{Ticks, Turns}
use Rattle.p3l_cost.specs.Costs.{most_cost}
use Rattle.p3l_cost.specs.Standard.{turns_or, full_turns}
use Rattle.p3l_cost.specs.Wanted.{TomlWanted}
use Rattle.p3l_base.specs.Memory.{Refused}

-- the result of a rule: kept, or the refusal
abbrev pub Verdict : Type 0
Verdict = Result (Unit {0}) CostRefusal

abbrev pub kept : Verdict
kept = Ok tt

-- continues with a value, or passes its refusal on
abbrev pub given : {A B : Type 0} → Result A CostRefusal → (A → Result B CostRefusal) → Result B CostRefusal
given (Ok x) go = go x
given (Err refusal) go = Err refusal

-- an answer is what is meant, value or refusal, unless a request for memory was refused; no rule of
-- keys and values says that a text is no document
abbrev pub Gives : {A : Type 0} → Result A CostRefusal → Result A CostRefusal → Type 0
Gives (Ok x) meant = meant ≡ Ok x
Gives (Err NotToml) meant = ⊥
Gives (Err (BadKey key)) meant = meant ≡ Err (BadKey key)
Gives (Err (BadValue key)) meant = meant ≡ Err (BadValue key)
Gives (Err (Missing name)) meant = meant ≡ Err (Missing name)
Gives (Err NoMemory) meant = Refused

-- a whole number from `low` to `high`
abbrev pub natural_in : ℕ → ℕ → ℤ → Option ℕ
natural_in low high (pos n) = if nat_le low n && nat_le n high then Some n else None
natural_in low high (negsuc n) = None

abbrev pub whole_in : ℕ → ℕ → Data → Option ℕ
whole_in low high (integer z) = natural_in low high z
whole_in low high _ = None

-- a number was found, or the value of this key is none
abbrev pub found : List ℕ → Option ℕ → Verdict
found key None = Err (BadValue key)
found key (Some n) = kept

-- the tables of a cost file: the ticks of `seq` modules, and the expected turns of `loop` modules
abbrev pub section_key : Section → List ℕ
section_key Ticks = codes "seq"
section_key Turns = codes "turns"

-- the least number of an entry
abbrev pub least_of : Section → ℕ
least_of Ticks = 0
least_of Turns = 1

-- the full key of an entry
abbrev pub entry_key : Section → List ℕ → List ℕ
entry_key section name = section_key section ++ (codes "." ++ name)

-- a table speaks of the modules of this skeleton
abbrev pub speaks_of : Section → ModuleKind → Bool
speaks_of Ticks kind.Seq = true
speaks_of Turns kind.Loop = true
speaks_of _ _ = false

-- the greatest number of the entry of a module: the greatest of all costs, and no more turns than a loop allows
abbrev pub most_of : Section → List Node → ℕ → ℕ
most_of Ticks nodes home = most_cost
most_of Turns nodes home = turns_or most_cost nodes home

-- the modules that a table speaks of, from module `home` on, each with the greatest number of its entry
abbrev pub spoken_of : Section → List Node → ℕ → List ModuleInfo → List (List ℕ × ℕ)
spoken_of section nodes home [] = []
spoken_of section nodes home (m ∷ ms) =
    if speaks_of section m.kind then (m.name, most_of section nodes home) ∷ spoken_of section nodes (home + 1) ms
    else spoken_of section nodes (home + 1) ms

-- the greatest number of the entry of this name, if the table speaks of such a module
abbrev pub limit_of : Tree → Section → List ℕ → Option ℕ
limit_of tree section name = lookup (bytes_eq name) (spoken_of section tree.nodes 0 tree.modules)

-- an entry names a module that its table speaks of, and its number is in range
abbrev pub entry_within : Section → List ℕ → Data → Option ℕ → Verdict
entry_within section name d None = Err (BadKey (entry_key section name))
entry_within section name d (Some limit) = found (entry_key section name) (whole_in (least_of section) limit d)

-- the entries of a table, one after another, where `limit` gives the greatest numbers
abbrev pub entries_rule : (List ℕ → Option ℕ) → Section → Members → Verdict
entries_rule limit section no_members = kept
entries_rule limit section (member name d more) =
    given (entry_within section name d (limit name)) (λ x. entries_rule limit section more)

-- a table is a table, and its entries keep the rules
abbrev pub section_rule : Tree → Section → Data → Verdict
section_rule tree section (table entries) = entries_rule (limit_of tree section) section entries
section_rule tree section _ = Err (BadValue (section_key section))

-- the keys of numbers
abbrev pub is_number_key : List ℕ → Bool
is_number_key key = list_any (bytes_eq key) (codes "setup" ∷ codes "word" ∷ codes "default" ∷ [])

-- a key of the document is one of five, and its value keeps the rules
abbrev pub key_rule : Tree → List ℕ → Data → Verdict
key_rule tree key d =
    if is_number_key key then found key (whole_in 0 most_cost d)
    else (if bytes_eq key (section_key Ticks) then section_rule tree Ticks d
    else (if bytes_eq key (section_key Turns) then section_rule tree Turns d
    else Err (BadKey key)))

-- the keys of the document, one after another, in the order of their bytes
abbrev pub keys_rule : Tree → Members → Verdict
keys_rule tree no_members = kept
keys_rule tree (member key d more) = given (key_rule tree key d) (λ x. keys_rule tree more)

-- a number of the document
abbrev pub number_in : Members → List ℕ → Option ℕ
number_in document key = option_map_or (whole_in 0 most_cost) (get_member key document) None

-- the number of an entry of a table
abbrev pub entry_of : Section → ℕ → List ℕ → Data → Option ℕ
entry_of section limit name (table entries) = option_map_or (whole_in (least_of section) limit) (get_member name entries) None
entry_of section limit name _ = None

abbrev pub entry_in : Members → Section → ℕ → List ℕ → Option ℕ
entry_in document section limit name = option_map_or (entry_of section limit name) (get_member (section_key section) document) None

-- a module is that of some node
abbrev pub is_used : List Node → ℕ → Bool
is_used nodes home = list_any (λ (node : Node). node.module == home) nodes

-- the ticks of a `seq` module: its entry, else the default, which a module of no node may lack
abbrev pub ticks_or : Option ℕ → Option ℕ → Bool → List ℕ → Result ℕ CostRefusal
ticks_or (Some n) default used name = Ok n
ticks_or None (Some n) used name = Ok n
ticks_or None None true name = Err (Missing name)
ticks_or None None false name = Ok 0

abbrev pub ticks_of : Tree → Members → ℕ → ModuleInfo → Result ℕ CostRefusal
ticks_of tree document home m =
    if speaks_of Ticks m.kind
    then ticks_or (entry_in document Ticks most_cost m.name) (number_in document (codes "default")) (is_used tree.nodes home) m.name
    else Ok 0

-- the ticks of modules, from module `home` on
abbrev pub all_ticks : Tree → Members → ℕ → List ModuleInfo → Result (List ℕ) CostRefusal
all_ticks tree document home [] = Ok []
all_ticks tree document home (m ∷ ms) =
    given (ticks_of tree document home m) (λ n. given (all_ticks tree document (home + 1) ms) (λ ns. Ok (n ∷ ns)))

-- the expected turns of a loop module: its entry, else as many as the loop allows; 1 for other modules
abbrev pub turns_of_module : Tree → Members → ℕ → ModuleInfo → ℕ
turns_of_module tree document home m =
    if speaks_of Turns m.kind
    then unwrap_or (entry_in document Turns (turns_or most_cost tree.nodes home) m.name) (full_turns tree.nodes home)
    else 1

abbrev pub all_turns : Tree → Members → ℕ → List ModuleInfo → List ℕ
all_turns tree document home [] = []
all_turns tree document home (m ∷ ms) = turns_of_module tree document home m ∷ all_turns tree document (home + 1) ms

-- the costs of a document, with these ticks and turns
abbrev pub costs_with : Members → List ℕ → List ℕ → Costs
costs_with document ticks turns = record {
  setup = unwrap_or (number_in document (codes "setup")) 0;
  word = unwrap_or (number_in document (codes "word")) 0;
  ticks = ticks;
  turns = turns;
}

-- the costs that a document says, or the first rule that it breaks
unfoldable pub costs_in : Tree → Members → Result Costs CostRefusal
costs_in tree document =
    given (keys_rule tree document)
    (λ x. given (all_ticks tree document 0 tree.modules)
    (λ ticks. Ok (costs_with document ticks (all_turns tree document 0 tree.modules))))

-- the text is UTF-8, and this document
pub record IsDocument (text : List ℕ) (document : Members) : Type 0 where
  pub utf8 : IsUtf8 text
  pub parsed : parse_document text ≡ Some document

-- why a text is no document, unless toml answered that memory ran out
abbrev pub IsNoDocument : List ℕ → CostRefusal → Type 0
IsNoDocument text NotToml = (document : Members) → IsDocument text document → ⊥
IsNoDocument text (BadKey key) = ⊥
IsNoDocument text (BadValue key) = ⊥
IsNoDocument text (Missing name) = ⊥
IsNoDocument text NoMemory = TomlWanted

-- the text is a document, and `meant` is its costs of the tree or their refusal
pub record Says (tree : Tree) (text : List ℕ) (meant : Result Costs CostRefusal) : Type 0 where
  pub document : Members
  pub is : IsDocument text document
  pub says : costs_in tree document ≡ meant

-- the costs that are read of the text, or why it is refused
abbrev pub IsRead : Tree → List ℕ → Result Costs CostRefusal → Type 0
IsRead tree text (Ok costs) = Says tree text (Ok costs)
IsRead tree text (Err NotToml) = (document : Members) → IsDocument text document → ⊥
IsRead tree text (Err (BadKey key)) = Says tree text (Err (BadKey key))
IsRead tree text (Err (BadValue key)) = Says tree text (Err (BadValue key))
IsRead tree text (Err (Missing name)) = Says tree text (Err (Missing name))
IsRead tree text (Err NoMemory) = Refused ⊎ TomlWanted
