-- The condition on bodies that are written as C, and the function of a body with its calls.
use Rattle.std.specs.Prelude.{◌≡◌, ℕ, ℤ, pos, ◌+◌, ◌<◌, ◌^◌, List, [], ◌∷◌, ◌++◌, map, take, drop, replicate, length, Option, Some, None, slice_index_or, FitsSigned}
use Rattle.std.specs.List.{AllByRecursion, flat_map}
use Rattle.std.specs.Int.{w64}
use Rattle.p3l_base.specs.declared.outcome.Outcome.{Outcome}
use Rattle.p3l_base.specs.declared.outcome.Outcome.TheVariants.{Value, Trapped}
use Rattle.p3l_ast.specs.declared.meaning.valuation.Binding.{Binding}
use Rattle.p3l_ast.specs.declared.meaning.valuation.Valuation.{Valuation}
use Rattle.p3l_ast.specs.Tree.{Phrase, number, read, unary, binary, Phrases, none, more, Statements, done, assign, if_, if_else, while_, for_}
use Rattle.p3l_types.specs.Constants.{Constants}
use Rattle.p3l_types.specs.Shape.{product}
use Rattle.p3l_body.specs.declared.var.Var.{Var}
use Rattle.p3l_body.specs.Eval.{width, constant, eval}
use Rattle.p3l_body.specs.Seq.{SeqTree}
use Rattle.p3l_c.specs.Syntax as c
use Rattle.p3l_c.specs.Machine.{Store, Ending, goes, returns, undefined, unfinished, object_of, runs_by, loops_by}
use Rattle.p3l_c.specs.Translate.{Shapes, declared, lines}

-- the number of indices
abbrev pub count_of : Phrases → ℕ
count_of none = 0
count_of (more e is) = count_of is + 1

-- a name is declared, with so many sizes
abbrev pub HasSizes : Option (List ℕ) → ℕ → Type 0
HasSizes None n = ⊥
HasSizes (Some sizes) n = n ≡ length sizes

abbrev pub IsDeclared : Shapes → List ℕ → ℕ → Type 0
IsDeclared shapes name n = HasSizes (declared shapes name) n

-- each name is declared and has an index for each of its sizes, and each number is one of int64_t
abbrev mutual
  pub Fits : Shapes → Phrase → Type 0
  Fits shapes (number v) = FitsSigned w64 v
  Fits shapes (read x is) = IsDeclared shapes x.name (count_of is) × FitsAll shapes is
  Fits shapes (unary op e) = Fits shapes e
  Fits shapes (binary op a b) = Fits shapes a × Fits shapes b

  pub FitsAll : Shapes → Phrases → Type 0
  FitsAll shapes none = Unit {0}
  FitsAll shapes (more e is) = Fits shapes e × FitsAll shapes is

-- a target is a variable, since a constant, `const` or a literal, is no modifiable lvalue
-- (6.5.16p2)
abbrev pub FitsAssign : Shapes → Shapes → List ℕ → Phrases → Phrase → Type 0
FitsAssign variables shapes name is e = IsDeclared variables name (count_of is) × FitsAll shapes is × Fits shapes e

abbrev pub FitsLines : Shapes → Shapes → Statements → Type 0
FitsLines variables shapes done = Unit {0}
FitsLines variables shapes (assign x is e after) = FitsAssign variables shapes x.name is e × FitsLines variables shapes after
FitsLines variables shapes (if_ e if_so after) = Fits shapes e × FitsLines variables shapes if_so × FitsLines variables shapes after
FitsLines variables shapes (if_else e if_so if_not after) =
    Fits shapes e × FitsLines variables shapes if_so × FitsLines variables shapes if_not × FitsLines variables shapes after
FitsLines variables shapes (while_ e body after) = Fits shapes e × FitsLines variables shapes body × FitsLines variables shapes after
FitsLines variables shapes (for_ x is e w y js f body after) =
    FitsAssign variables shapes x.name is e × Fits shapes w × FitsAssign variables shapes y.name js f
    × FitsLines variables shapes body × FitsLines variables shapes after

-- the names that bindings have, with their sizes
abbrev pub shape_of : Binding → List ℕ × List ℕ
shape_of b = (b.name, b.sizes)

abbrev pub shapes_of : Valuation → Shapes
shapes_of s = map shape_of s.bindings

-- an array has as many words as its sizes say; int64_t has each of its sizes and each of its words
pub record IsObject (b : Binding) : Type 0 where
  pub whole : length b.words ≡ product b.sizes
  pub sizes : AllByRecursion (λ size. size < 2 ^ 63) b.sizes
  pub words : (k : ℕ) → FitsSigned w64 (slice_index_or b.words k (pos 0))

abbrev pub vars_shapes : List Var → Shapes
vars_shapes vars = map (λ (var : Var). (var.name, var.shape.sizes)) vars

-- the variables of a body: its ins, its outs and its local variables
abbrev pub variables_in : SeqTree → Shapes
variables_in seq = (vars_shapes seq.ins ++ vars_shapes seq.outs) ++ vars_shapes seq.locals

-- a constant has no size
abbrev pub scalar : List ℕ × ℤ → List ℕ × List ℕ
scalar constant = (constant.0, [])

-- the names of a body: its variables, and the constants before it
abbrev pub shapes_in : SeqTree → Shapes
shapes_in seq = variables_in seq ++ map scalar seq.constants

-- int64_t has the numbers of constants
abbrev pub ConstantsFit : Constants → Type 0
ConstantsFit constants = AllByRecursion (λ (c : List ℕ × ℤ). FitsSigned w64 c.1) constants

-- each size of a variable is one of int64_t's numbers
abbrev pub HasSmallSizes : Var → Type 0
HasSmallSizes var = AllByRecursion (λ size. size < 2 ^ 63) var.shape.sizes

-- a body that can be written as C
pub record IsWritable (seq : SeqTree) : Type 0 where
  pub fits : FitsLines (variables_in seq) (shapes_in seq) seq.body
  pub sizes : AllByRecursion HasSmallSizes ((seq.ins ++ seq.outs) ++ seq.locals)
  pub constants : ConstantsFit seq.constants
  pub budget : seq.budget < 2 ^ 63

-- the number of words of variables
abbrev pub total : List Var → ℕ
total [] = 0
total (var ∷ vars) = width var + total vars

-- a valuation as a store
abbrev pub stored : Valuation → (ℕ → Option ℤ) → Store
stored s temps = record { objects = s.bindings; temps = temps; turns = s.turns }

-- the ending of a call of the function
pub data Called : Type 0 where
  gives : Outcome → Called
  is_undefined : Called
  is_unfinished : Called

-- the values of an object
abbrev pub given_values : Option Binding → List ℤ
given_values (Some object) = object.words
given_values None = []

abbrev pub values_of : List Binding → List ℕ × List ℕ → List ℤ
values_of objects shape = given_values (object_of objects shape.0)

abbrev pub called_of : ℕ → Shapes → Ending → Called
called_of home outs (goes st) = gives (Value (flat_map (values_of st.objects) outs))
called_of home outs (returns trap) = gives (Trapped (record { kind = trap; «module» = home }))
called_of home outs undefined = is_undefined
called_of home outs unfinished = is_unfinished

-- a declaration of a function: an object that takes its words from `in`, from a place on (`memcpy`,
-- 7.24.2.1p2: the words in the order of storage), or one whose initialiser is `{0}` (6.7.9p10, p21:
-- all its words are 0)
pub data Entry : Type 0 where
  takes : List ℕ → List ℕ → ℕ → Entry
  zero_object : List ℕ → List ℕ → Entry

abbrev pub entered : List ℤ → Entry → Binding
entered words (takes name sizes from) = record { name = name; sizes = sizes; words = take (product sizes) (drop from words) }
entered words (zero_object name sizes) = record { name = name; sizes = sizes; words = replicate (product sizes) (pos 0) }

-- a function of `const int64_t *in` and `int64_t *out`: its declarations, the constants that it may
-- read, its lines, and the objects whose words it copies to `out`, one after the other, before it
-- returns 0; a trap is returned as its code
pub record Function : Type 0 where
  pub entries : List Entry
  pub constants : Constants
  pub lines : c.Lines
  pub outs : Shapes

abbrev pub take_entries : ℕ → List Var → List Entry
take_entries from [] = []
take_entries from (var ∷ vars) = takes var.name var.shape.sizes from ∷ take_entries (from + width var) vars

abbrev pub zero_entry : Var → Entry
zero_entry var = zero_object var.name var.shape.sizes

-- THE FUNCTION of a body
abbrev pub function_of : SeqTree → Function
function_of seq = record {
  entries = (take_entries 0 seq.ins ++ map zero_entry seq.outs) ++ map zero_entry seq.locals;
  constants = seq.constants;
  lines = lines (shapes_in seq) seq.budget seq.body c.done;
  outs = vars_shapes seq.outs;
}

-- a call of a function of a module on words, with a bound on the rounds of a loop; a declaration
-- hides a constant of the same name (6.2.1p4)
abbrev pub called : ℕ → ℕ → Function → List ℤ → Called
called fuel home f words =
    called_of home f.outs
    (runs_by (loops_by fuel) f.lines
    (record { objects = map (entered words) f.entries ++ map constant f.constants; temps = (λ k. None); turns = 0 }))

-- the function of a body is never undefined, ends, and gives what the body means
abbrev pub CMeans : Type 0
CMeans =
    (seq : SeqTree) (words : List ℤ) (fuel : ℕ) → IsWritable seq → length words ≡ total seq.ins → AllByRecursion (FitsSigned w64) words → seq.budget < fuel →
    called fuel seq.home (function_of seq) words ≡ gives (eval seq words)
