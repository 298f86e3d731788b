-- The identifiers of the variables of a body.
use Rattle.std.specs.Prelude.{◌≡◌, ℕ, ◌<◌, ◌≤◌, ◌^◌, List, length, IsSome, bytes_eq}
use Rattle.std.specs.Map.{lookup}
use Rattle.p3l_body.specs.declared.var.Var.{Var}
use Rattle.p3l_body.specs.Seq.{SeqTree}
use Rattle.p3l_c_print.specs.declared.names.Kind.{Kind}
use Rattle.p3l_c_print.specs.declared.names.Kind.TheVariants.{In, Out, Local}
use Rattle.p3l_c_print.specs.Name.{name_text, names_of}

-- the characters of an identifier that are significant for every compiler (6.4.2.1p6, 5.2.4.1)
abbrev pub most_significant : ℕ
most_significant = 63

-- the variables of a kind
abbrev pub vars_of : SeqTree → Kind → List Var
vars_of seq In = seq.ins
vars_of seq Out = seq.outs
vars_of seq Local = seq.locals

-- 64 bits can number the variables of a kind
abbrev pub IsCountable : SeqTree → Type 0
IsCountable seq = (kind : Kind) → length (vars_of seq kind) < 2 ^ 64

-- the name of a variable
abbrev pub IsVariable : SeqTree → List ℕ → Type 0
IsVariable seq name = IsSome (lookup (bytes_eq name) (names_of seq).places)

-- an object as the function of a body has it
abbrev pub object_text : SeqTree → List ℕ → List ℕ
object_text seq name = name_text (names_of seq) name

-- the identifier of a variable is significant to its end, and no other variable has it
pub record IsDistinct (seq : SeqTree) (name : List ℕ) : Type 0 where
  pub significant : length (object_text seq name) ≤ most_significant
  pub own : (other : List ℕ) → IsVariable seq other → object_text seq name ≡ object_text seq other → name ≡ other

-- THE LAW of identifiers: each variable of a body has one that is distinct
abbrev pub IdentifiersAreDistinct : Type 0
IdentifiersAreDistinct = (seq : SeqTree) (name : List ℕ) → IsCountable seq → IsVariable seq name → IsDistinct seq name
