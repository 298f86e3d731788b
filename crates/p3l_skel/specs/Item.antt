-- The meaning of a tree for an item: a function on words, with no process and no channel.
use Rattle.std.specs.Prelude.{ℕ, ℤ, pos, zero, suc, ◌/◌, Bool, true, false, if◌then◌else◌, Option, Some, None, List, [], ◌∷◌, length, map, take, drop, replicate, slice_index}
use Rattle.std.specs.List.{range_with_len}
use Rattle.p3l_base.specs.declared.cut.Cut.{Cut}
use Rattle.p3l_base.specs.declared.outcome.Outcome.{Outcome}
use Rattle.p3l_base.specs.declared.outcome.Outcome.TheVariants.{Value, Trapped}
use Rattle.p3l_base.specs.declared.outcome.TrapKind.TheVariants.{Turns}
use Rattle.p3l_base.specs.Cut.{element_count, element_words, joined_words}
use Rattle.p3l_skel.specs.declared.tree.Form.{Form}
use Rattle.p3l_skel.specs.declared.tree.Form.TheVariants.{Seq, Comp, Pipe, Farm, Map, Reduce, Loop}
use Rattle.p3l_skel.specs.declared.tree.Tree.{Tree}
use Rattle.p3l_skel.specs.Tree.{node_at, rescue_of, by_parts, nesting}
use Rattle.p3l_skel.specs.Fold.{tree_fold}

-- a meaning on outcomes: a trap is itself
abbrev pub on_value : (List ℤ → Outcome) → Outcome → Outcome
on_value meaning (Value words) = meaning words
on_value meaning (Trapped trap) = Trapped trap

-- the outcome of stages in order on an outcome
abbrev pub in_order : (ℕ → List ℤ → Outcome) → List ℕ → Outcome → Outcome
in_order meaning [] outcome = outcome
in_order meaning (p ∷ ps) outcome = in_order meaning ps (on_value (meaning p) outcome)

-- the first trap of several outcomes, else what `join` makes of all their words
abbrev pub gathered : (List (List ℤ) → List ℤ) → List Outcome → Outcome
gathered join [] = Value (join [])
gathered join (Trapped trap ∷ outcomes) = Trapped trap
gathered join (Value words ∷ outcomes) = gathered (λ results. join (words ∷ results)) outcomes

-- a map's part on each element in row-major order
abbrev pub map_outcomes : Cut → (List ℤ → Outcome) → List ℤ → List Outcome
map_outcomes cut part words =
    map (λ e. part (element_words cut.ins cut.second words e)) (range_with_len 0 (element_count cut))

-- the results of a map's part joined, or their first trap in that order
abbrev pub mapped : Cut → (List ℤ → Outcome) → List ℤ → Outcome
mapped cut part words = gathered (joined_words cut) (map_outcomes cut part words)

-- n pieces of `size` words each, in order
abbrev pub pieces : ℕ → ℕ → List ℤ → List (List ℤ)
pieces zero size words = []
pieces (suc n) size words = take size words ∷ pieces n size (drop size words)

-- the elements of `size` words each
abbrev pub elements : ℕ → List ℤ → List (List ℤ)
elements size words = pieces (length words / size) size words

-- the tree fold of the elements of `size` words each
abbrev pub reduced : ℕ → (List ℤ → Outcome) → List ℤ → Outcome
reduced size operator words = tree_fold operator (map (λ element. Value element) (elements size words))

-- true exactly if a condition's words say that a loop is done: the first word is 0
abbrev pub is_done : List ℤ → Bool
is_done [] = false
is_done (pos zero ∷ more) = true
is_done (word ∷ more) = false

-- the outcome of the body and the condition on words with n turns left; `spent` if a turn is to
-- follow the last of them
abbrev pub turned : (List ℤ → Outcome) → (List ℤ → Outcome) → Outcome → ℕ → List ℤ → Outcome
turned body condition spent zero words = spent
turned body condition spent (suc t) words =
    on_value (λ result. on_value (λ answer. if is_done answer then Value result else turned body condition spent t result) (condition result))
    (body words)

-- the trap of a loop whose turns are spent
abbrev pub turns_spent : ℕ → Outcome
turns_spent home = Trapped (record { kind = Turns; «module» = home })

-- the outcome under a rescue number: a trap becomes `outs` words, each the number
abbrev pub rescued : Option ℤ → ℕ → Outcome → Outcome
rescued None outs outcome = outcome
rescued (Some number) outs (Value words) = Value words
rescued (Some number) outs (Trapped trap) = Value (replicate outs number)

-- the outcome under the rescue number of a node's module, if it has one
abbrev pub rescued_at : Tree → ℕ → Outcome → Outcome
rescued_at tree node = rescued (rescue_of tree (node_at tree node).module) (node_at tree node).outs

-- the outcome of a node of a module on words, given the outcomes of its parts, and the outcome under
-- the module's rescue number
abbrev pub item_row : (Outcome → Outcome) → (ℕ → List ℤ → Outcome) → ℕ → Form → List ℕ → (ℕ → List ℤ → Outcome) → List ℤ → Outcome
item_row rescue leaf home Seq parts part words = rescue (leaf home words)
item_row rescue leaf home Comp parts part words = rescue (in_order part parts (Value words))
item_row rescue leaf home Pipe parts part words = in_order part parts (Value words)
item_row rescue leaf home (Farm w) parts part words = part (slice_index parts 0) words
item_row rescue leaf home (Map w cut) parts part words = mapped cut (part (slice_index parts 0)) words
item_row rescue leaf home (Reduce w len elem) parts part words = reduced elem (part (slice_index parts 0)) words
item_row rescue leaf home (Loop turns tokens) parts part words =
    turned (part (slice_index parts 0)) (part (slice_index parts 1)) (turns_spent home) turns words

-- the outcome of a node on the words of an item, given the outcome of each `seq` module, down to
-- a depth
unfoldable pub item_to : Tree → (ℕ → List ℤ → Outcome) → ℕ → ℕ → List ℤ → Outcome
item_to tree leaf =
    by_parts (λ part k. item_row (rescued_at tree k) leaf (node_at tree k).module (node_at tree k).form (node_at tree k).parts part)
    (λ k words. leaf (node_at tree k).module words)

-- the outcome of a node on the words of an item, given the outcome of each `seq` module
abbrev pub item : Tree → (ℕ → List ℤ → Outcome) → ℕ → List ℤ → Outcome
item tree leaf node words = item_to tree leaf nesting node words

-- the outcomes of items in order, up to and with the first trap
abbrev pub up_to_trap : Outcome → List Outcome → List Outcome
up_to_trap (Trapped trap) rest = Trapped trap ∷ []
up_to_trap (Value words) rest = Value words ∷ rest

-- the meaning of items: the root's outcomes up to and with the first trap
abbrev pub meaning : Tree → (ℕ → List ℤ → Outcome) → List (List ℤ) → List Outcome
meaning tree leaf [] = []
meaning tree leaf (words ∷ items) = up_to_trap (item tree leaf 0 words) (meaning tree leaf items)
