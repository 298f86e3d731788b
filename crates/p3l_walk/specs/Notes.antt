-- The work done for an item: the runs of codes and the turns of loops, in their order.
use Rattle.std.specs.Prelude.{ℕ, ℤ, zero, suc, ◌+◌, ◌/◌, Option, Some, None, List, [], ◌∷◌, ◌++◌, length, map, take, drop, slice_index, if◌then◌else◌}
use Rattle.std.specs.List.{range_with_len}
use Rattle.p3l_base.specs.declared.cut.Cut.{Cut}
use Rattle.p3l_base.specs.declared.outcome.Outcome.{Outcome}
use Rattle.p3l_base.specs.declared.outcome.Outcome.TheVariants.{Value, Trapped}
use Rattle.p3l_base.specs.Cut.{element_count, element_words}
use Rattle.p3l_skel.specs.declared.tree.Form.{Form}
use Rattle.p3l_skel.specs.declared.tree.Form.TheVariants.{Seq, Comp, Pipe, Farm, Map, Reduce, Loop}
use Rattle.p3l_skel.specs.declared.tree.Tree.{Tree}
use Rattle.p3l_skel.specs.Tree.{node_at, by_parts, nesting}
use Rattle.p3l_skel.specs.Fold.{combined, tree_fold}
use Rattle.p3l_skel.specs.Item.{elements, is_done, item, on_value}

-- a code of this module was run, and did `steps` instructions; a loop of this module began its turn of
-- this number for an item, the first being 1
pub data Note : Type 0 where
  ran : (home steps : ℕ) → Note
  turn : (home number : ℕ) → Note

-- the notes on the words of an outcome, and none on a trap
abbrev pub notes_on : (List ℤ → List Note) → Outcome → List Note
notes_on noted (Value words) = noted words
notes_on noted (Trapped trap) = []

-- the notes if an outcome is no trap, otherwise none
abbrev pub if_value : Outcome → List Note → List Note
if_value (Value words) notes = notes
if_value (Trapped trap) notes = []

-- stages in order, up to the first trap
abbrev pub stage_notes : (ℕ → List ℤ → Outcome) → (ℕ → List ℤ → List Note) → List ℕ → Outcome → List Note
stage_notes part noted [] outcome = []
stage_notes part noted (p ∷ ps) outcome = notes_on (noted p) outcome ++ stage_notes part noted ps (on_value (part p) outcome)

-- elements in order, up to the first trap
abbrev pub element_notes : (ℕ → Outcome) → (ℕ → List Note) → List ℕ → List Note
element_notes part noted [] = []
element_notes part noted (e ∷ es) = noted e ++ if_value (part e) (element_notes part noted es)

-- a map's part on each element in row-major order
abbrev pub map_notes : Cut → (List ℤ → Outcome) → (List ℤ → List Note) → List ℤ → List Note
map_notes cut part noted words =
    element_notes (λ e. part (element_words cut.ins cut.second words e)) (λ e. noted (element_words cut.ins cut.second words e))
    (range_with_len 0 (element_count cut))

-- the fold by halves of elements
abbrev pub folded : (List ℤ → Outcome) → List (List ℤ) → Outcome
folded operator list = tree_fold operator (map (λ element. Value element) list)

-- the left half before the right one, and then the operator on what both came to, up to the first trap,
-- of at most n elements
unfoldable pub fold_notes_to : ℕ → (List ℤ → Outcome) → (List ℤ → List Note) → List (List ℤ) → List Note
fold_notes_to n operator noted [] = []
fold_notes_to n operator noted (one ∷ []) = []
fold_notes_to zero operator noted (one ∷ (other ∷ more)) = []
fold_notes_to (suc n) operator noted (one ∷ (other ∷ more)) =
    let all : List (List ℤ) = one ∷ (other ∷ more) in
    let left : List (List ℤ) = take (length all / 2) all in
    let right : List (List ℤ) = drop (length all / 2) all in
    fold_notes_to n operator noted left
    ++ if_value (folded operator left)
    (fold_notes_to n operator noted right
    ++ notes_on noted (combined (λ words. Value words) (folded operator left) (folded operator right)))

abbrev pub fold_notes : (List ℤ → Outcome) → (List ℤ → List Note) → List (List ℤ) → List Note
fold_notes operator noted list = fold_notes_to (length list) operator noted list

-- the turns of a loop module from the one after `made` on, where `left` are left
abbrev pub turn_notes : ℕ → (body condition : List ℤ → Outcome) → (in_body in_condition : List ℤ → List Note) → (made left : ℕ) → List ℤ → List Note
turn_notes home body condition in_body in_condition made zero words = []
turn_notes home body condition in_body in_condition made (suc left) words =
    turn home (made + 1) ∷ (in_body words
    ++ notes_on (λ result. in_condition result
    ++ notes_on (λ answer. if is_done answer then [] else turn_notes home body condition in_body in_condition (made + 1) left result) (condition result))
    (body words))

-- the notes of a node of a module, given the outcomes and notes of its parts
abbrev pub notes_row : (ℕ → List ℤ → ℕ) → ℕ → Form → List ℕ → (ℕ → List ℤ → Outcome) → (ℕ → List ℤ → List Note) → List ℤ → List Note
notes_row steps home Seq parts part noted words = ran home (steps home words) ∷ []
notes_row steps home Comp parts part noted words = stage_notes part noted parts (Value words)
notes_row steps home Pipe parts part noted words = stage_notes part noted parts (Value words)
notes_row steps home (Farm w) parts part noted words = noted (slice_index parts 0) words
notes_row steps home (Map w cut) parts part noted words = map_notes cut (part (slice_index parts 0)) (noted (slice_index parts 0)) words
notes_row steps home (Reduce w len elem) parts part noted words =
    fold_notes (part (slice_index parts 0)) (noted (slice_index parts 0)) (elements elem words)
notes_row steps home (Loop turns tokens) parts part noted words =
    turn_notes home (part (slice_index parts 0)) (part (slice_index parts 1)) (noted (slice_index parts 0)) (noted (slice_index parts 1)) 0 turns words

-- the notes of a tree's node on the words of an item, down to a depth, given the outcome of each
-- `seq` module on words, and its number of instructions
unfoldable pub notes_to : Tree → (ℕ → List ℤ → Outcome) → (ℕ → List ℤ → ℕ) → ℕ → ℕ → List ℤ → List Note
notes_to tree leaf steps =
    by_parts (λ noted k. notes_row steps (node_at tree k).module (node_at tree k).form (node_at tree k).parts (item tree leaf) noted)
    (λ k words. [])

-- the notes of a tree's node on the words of an item
abbrev pub notes : Tree → (ℕ → List ℤ → Outcome) → (ℕ → List ℤ → ℕ) → ℕ → List ℤ → List Note
notes tree leaf steps node words = notes_to tree leaf steps nesting node words

-- a tally after all of this was noted, where it is known how one note changes it
unfoldable pub noted_by : {S : Type 0} → (S → Note → S) → S → List Note → S
noted_by noted tally [] = tally
noted_by noted tally (note ∷ notes) = noted_by noted (noted tally note) notes
