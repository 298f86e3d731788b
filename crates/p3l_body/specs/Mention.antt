-- The names that statements speak of, and the rules that they keep.
use Rattle.std.specs.Prelude.{ℕ, ◌+◌, ◌==◌, ◌&&◌, not, Bool, true, false, List, [], ◌∷◌, ◌++◌, map, Err, Option, Some, None, nat_lt}
use Rattle.p3l_ast.specs.declared.position.Spot.{Spot}
use Rattle.p3l_ast.specs.declared.refusal.Fault.TheVariants.{Undeclared, NotArray, IsArray, WriteToIn}
use Rattle.p3l_ast.specs.declared.refusal.SourceRefusal.TheVariants.{At}
use Rattle.p3l_ast.specs.Tree.{Phrase, number, read, unary, binary, Phrases, none, more, Statements, done, assign, if_, if_else, while_, for_}
use Rattle.p3l_types.specs.Verdict.{Verdict, broken_if, first_of}
use Rattle.p3l_types.specs.Constants.{Constants}
use Rattle.p3l_body.specs.declared.scope.Known.{Known}
use Rattle.p3l_body.specs.Scope.{Names, known_of}

-- a name where it is in a statement, with how many brackets, and whether it is assigned to
pub record Mention : Type 0 where
  pub at : Spot
  pub brackets : ℕ
  pub is_assigned : Bool

abbrev pub brackets_of : Phrases → ℕ
brackets_of none = 0
brackets_of (more e index) = brackets_of index + 1

-- the name of a variable or an element
abbrev pub mention : Bool → Spot → Phrases → Mention
mention is_assigned x index = record { at = x; brackets = brackets_of index; is_assigned = is_assigned }

unfoldable mutual
  -- the names of an expression, in the order of the text
  pub mentions : Phrase → List Mention
  mentions (number value) = []
  mentions (read x index) = mention false x index ∷ index_mentions index
  mentions (unary op e) = mentions e
  mentions (binary op a b) = mentions a ++ mentions b

  pub index_mentions : Phrases → List Mention
  index_mentions none = []
  index_mentions (more e index) = mentions e ++ index_mentions index

-- the names of a variable or an element and of its indices
abbrev pub place_mentions : Bool → Spot → Phrases → List Mention
place_mentions is_assigned x index = mention is_assigned x index ∷ index_mentions index

-- the names of an assignment
abbrev pub assignment_mentions : Spot → Phrases → Phrase → List Mention
assignment_mentions x index e = place_mentions true x index ++ mentions e

-- the names of statements, in the order of the text
unfoldable pub code_mentions : Statements → List Mention
code_mentions done = []
code_mentions (assign x index e next) = assignment_mentions x index e ++ code_mentions next
code_mentions (if_ e if_so next) = (mentions e ++ code_mentions if_so) ++ code_mentions next
code_mentions (if_else e if_so if_not next) = (mentions e ++ (code_mentions if_so ++ code_mentions if_not)) ++ code_mentions next
code_mentions (while_ e body next) = (mentions e ++ code_mentions body) ++ code_mentions next
code_mentions (for_ x index e w y indices f body next) =
    (assignment_mentions x index e ++ (mentions w ++ (assignment_mentions y indices f ++ code_mentions body))) ++ code_mentions next

-- a name is that of a port, a local variable or a constant; no in port and no constant is assigned
-- to; a scalar has no brackets, and an array as many as sizes
abbrev pub mention_rule : Option Known → Mention → Verdict
mention_rule None m = Err (At Undeclared m.at.pos)
mention_rule (Some known) m =
    first_of (
    broken_if (m.is_assigned && known.is_fixed) WriteToIn m.at.pos
    ∷ (broken_if (known.sizes == 0 && nat_lt 0 m.brackets) NotArray m.at.pos
    ∷ (broken_if (nat_lt 0 known.sizes && not (known.sizes == m.brackets)) IsArray m.at.pos
    ∷ [])))

-- each of these names keeps the rules, in their order
unfoldable pub mentions_rule : Constants → Names → List Mention → Verdict
mentions_rule constants names ms = first_of (map (λ (m : Mention). mention_rule (known_of constants names m.at.name) m) ms)
