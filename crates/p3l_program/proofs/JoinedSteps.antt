-- Lines, items and texts of two blocks, one after the other.
use Rattle.std.proofs.Common.{◌≡◌, ◌↔◌, ℕ, ℤ, ◌+◌, ◌<◌, true, false, cond, List, [], ◌∷◌, ◌++◌, length, map, refl, ap, sym, subst, ◌∙◌, arith, append_assoc, append-nil}
use Rattle.std.specs.List.{AllByRecursion, onto_first, slice_split}
use Rattle.std.specs.Str.Lines.{strip_carriage_return}
use Rattle.std.proofs.lemmas.List.Splits.{length-slice_split}
use Rattle.p3l_base.specs.declared.outcome.Outcome.{Outcome}
use Rattle.p3l_base.specs.declared.outcome.Outcome.TheVariants.{Value, Trapped}
use Rattle.p3l_skel.specs.declared.tree.Tree.{Tree}
use Rattle.p3l_skel.specs.Item.{item, meaning, up_to_trap}
use Rattle.p3l_stream.specs.declared.taken.Cutoff.TheVariants as stop
use Rattle.p3l_stream.specs.declared.line.LineContent.{LineContent}
use Rattle.p3l_stream.specs.declared.line.LineContent.TheVariants as line
use Rattle.p3l_stream.specs.declared.items.Ending.TheVariants as ending
use Rattle.p3l_stream.specs.declared.items.Items.{Items}
use Rattle.p3l_stream.specs.Items.{items_of, items_of_lines, put_line}
use Rattle.p3l_stream.specs.Text.{text_of}
use Rattle.p3l_stream.specs.Lines.{is_feed, line_of, lines_between, lines_of}
use Rattle.p3l_run.specs.Sampling.{IsValue}
use Rattle.p3l_run.specs.Network.{Network, meaning_of, width_of}
use Rattle.p3l_run.specs.Start.{fresh, outcomes_from}
use Rattle.p3l_run.proofs.WriteSteps.{text_more}
use Rattle.p3l_program.specs.Joined.{BlocksJoin, block}

-- PARTS BETWEEN LINE FEEDS

onto_more : (b : ℕ) (first more : List (List ℕ)) → 0 < length first → onto_first b (first ++ more) ≡ onto_first b first ++ more
onto_more b [] more some = absurd (omega arith)
onto_more b (part ∷ parts) more some = refl

split_more : (front rest : List ℕ) → slice_split is_feed (front ++ 10 ∷ rest) ≡ slice_split is_feed front ++ slice_split is_feed rest
split_more [] rest = refl
split_more (b ∷ front) rest =
    let parts = slice_split is_feed front in
    let some : 0 < length parts = omega (arith, length-slice_split is_feed front) in
    let more = split_more front rest in
    elim (is_feed b) as (
    λ c. cond c ([] ∷ slice_split is_feed (front ++ 10 ∷ rest)) (onto_first b (slice_split is_feed (front ++ 10 ∷ rest)))
    ≡ cond c ([] ∷ parts) (onto_first b parts) ++ slice_split is_feed rest
    ) [
      | true ↦ ap (λ z. [] ∷ z) more
      | false ↦ ap (onto_first b) more ∙ onto_more b parts (slice_split is_feed rest) some
    ]

-- LINES

between_more : (first more : List (List ℕ)) → 0 < length more → lines_between stop.End (first ++ more) ≡ map strip_carriage_return first ++ lines_between stop.End more
between_more first [] some = absurd (omega arith)
between_more [] (part ∷ parts) some = refl
between_more (a ∷ []) (part ∷ parts) some = refl
between_more (a ∷ b ∷ first) (part ∷ parts) some = ap (λ z. strip_carriage_return a ∷ z) (between_more (b ∷ first) (part ∷ parts) some)

-- the lines of a block
whole_lines : List ℕ → List (List ℕ)
whole_lines front = map strip_carriage_return (slice_split is_feed front)

lines_more : (front rest : List ℕ) → lines_of stop.End (front ++ 10 ∷ rest) ≡ whole_lines front ++ lines_of stop.End rest
unfolding whole_lines
lines_more front rest =
    let some : 0 < length (slice_split is_feed rest) = omega (arith, length-slice_split is_feed rest) in
    ap (lines_between stop.End) (split_more front rest) ∙ between_more (slice_split is_feed front) (slice_split is_feed rest) some

lines_alone : (front : List ℕ) → lines_of stop.End (block front) ≡ whole_lines front
lines_alone front = lines_more front [] ∙ append-nil (whole_lines front)

-- ITEMS

abbrev ends : Items → Type 0
ends seen = seen.ending ≡ ending.End

-- the numbers of lines stand in endings alone
put_anywhere : (l : LineContent) (k m : ℕ) (r s : Items) → r.items ≡ s.items → (put_line l k r).items ≡ (put_line l m s).items
put_anywhere line.Blank k m r s same = same
put_anywhere (line.Item words) k m r s same = ap (λ z. words ∷ z) same
put_anywhere _ k m r s same = refl

items_anywhere : (width k m : ℕ) (lines : List (List ℕ)) → (items_of_lines width k ending.End lines).items ≡ (items_of_lines width m ending.End lines).items
items_anywhere width k m [] = refl
items_anywhere width k m (bytes ∷ lines) = put_anywhere (line_of width bytes) k m _ _ (items_anywhere width (k + 1) (m + 1) lines)

end_put : (l : LineContent) (k m : ℕ) (r s : Items) → (ends r → ends s) → ends (put_line l k r) → ends (put_line l m s)
end_put line.Blank k m r s more h = more h
end_put (line.Item words) k m r s more h = more h
end_put line.BadWord k m r s more h = absurd (cc)
end_put (line.WrongCount had) k m r s more h = absurd (cc)
end_put line.OutOfRange k m r s more h = absurd (cc)

end_anywhere : (width k m : ℕ) (lines : List (List ℕ)) → ends (items_of_lines width k ending.End lines) → ends (items_of_lines width m ending.End lines)
end_anywhere width k m [] h = refl
end_anywhere width k m (bytes ∷ lines) h = end_put (line_of width bytes) k m _ _ (end_anywhere width (k + 1) (m + 1) lines) h

-- a line before more
put_more : (l : LineContent) (k : ℕ) (r s : Items) (more : List (List ℤ)) → (ends r → s.items ≡ r.items ++ more) → ends (put_line l k r) → (put_line l k s).items ≡ (put_line l k r).items ++ more
put_more line.Blank k r s more next h = next h
put_more (line.Item words) k r s more next h = ap (λ z. words ∷ z) (next h)
put_more line.BadWord k r s more next h = absurd (cc)
put_more (line.WrongCount had) k r s more next h = absurd (cc)
put_more line.OutOfRange k r s more next h = absurd (cc)

items_more : (width k : ℕ) (first more : List (List ℕ)) → ends (items_of_lines width k ending.End first) →
    (items_of_lines width k ending.End (first ++ more)).items ≡ (items_of_lines width k ending.End first).items ++ (items_of_lines width 1 ending.End more).items
items_more width k [] more h = items_anywhere width k 1 more
items_more width k (bytes ∷ first) more h = put_more (line_of width bytes) k _ _ _ (items_more width (k + 1) first more) h

end_both : (l : LineContent) (k : ℕ) (r s : Items) (E : Type 0) → (ends r → ends s ↔ E) → ends (put_line l k r) → ends (put_line l k s) ↔ E
end_both line.Blank k r s E next h = next h
end_both (line.Item words) k r s E next h = next h
end_both line.BadWord k r s E next h = absurd (cc)
end_both (line.WrongCount had) k r s E next h = absurd (cc)
end_both line.OutOfRange k r s E next h = absurd (cc)

end_more : (width k : ℕ) (first more : List (List ℕ)) → ends (items_of_lines width k ending.End first) →
    ends (items_of_lines width k ending.End (first ++ more)) ↔ ends (items_of_lines width 1 ending.End more)
end_more width k [] more h = (end_anywhere width k 1 more, end_anywhere width 1 k more)
end_more width k (bytes ∷ first) more h = end_both (line_of width bytes) k _ _ _ (end_more width (k + 1) first more) h

-- OUTCOMES

outcome_more : (o : Outcome) (r s more : List Outcome) → (AllByRecursion IsValue r → s ≡ r ++ more) → AllByRecursion IsValue (up_to_trap o r) → up_to_trap o s ≡ up_to_trap o r ++ more
outcome_more (Value words) r s more next all = ap (λ z. Value words ∷ z) (next all.1)
outcome_more (Trapped trap) r s more next all = absurd all.0

meaning_more : (tree : Tree) (leaf : ℕ → List ℤ → Outcome) (first more : List (List ℤ)) → AllByRecursion IsValue (meaning tree leaf first) →
    meaning tree leaf (first ++ more) ≡ meaning tree leaf first ++ meaning tree leaf more
meaning_more tree leaf [] more all = refl
meaning_more tree leaf (words ∷ first) more all = outcome_more (item tree leaf 0 words) _ _ _ (meaning_more tree leaf first more) all

-- BLOCKS

module _ (n : Network) (front rest : List ℕ) (is : n.start ≡ fresh) where
  outcomes_are : (items : List (List ℤ)) → meaning_of n items ≡ meaning n.tree n.leaf items
  outcomes_are items = ap (λ s. outcomes_from s (meaning n.tree n.leaf items)) is

pub blocks : BlocksJoin
blocks n front rest begins good values =
    let width = width_of n in
    let alone = lines_alone front in
    let lines : lines_of stop.End (block front ++ rest) ≡ whole_lines front ++ lines_of stop.End rest =
    ap (lines_of stop.End) (append_assoc front (10 ∷ []) rest) ∙ lines_more front rest in
    let good : ends (items_of_lines width 1 ending.End (whole_lines front)) = subst (λ z. ends (items_of_lines width 1 ending.End z)) alone good in
    let first : items_of width (block front) ≡ items_of_lines width 1 ending.End (whole_lines front) = ap (items_of_lines width 1 ending.End) alone in
    let both : items_of width (block front ++ rest) ≡ items_of_lines width 1 ending.End (whole_lines front ++ lines_of stop.End rest) = ap (items_of_lines width 1 ending.End) lines in
    let joined : (items_of width (block front ++ rest)).items ≡ (items_of width (block front)).items ++ (items_of width rest).items =
    ap (λ i. i.items) both ∙ items_more width 1 (whole_lines front) (lines_of stop.End rest) good ∙ ap (λ i. i.items ++ (items_of width rest).items) (sym first) in
    let told : AllByRecursion IsValue (meaning n.tree n.leaf (items_of width (block front)).items) = subst (AllByRecursion IsValue) (outcomes_are n front rest begins _) values in
    record {
      ends = subst (λ i. ends i ↔ ends (items_of width rest)) (sym both) (end_more width 1 (whole_lines front) (lines_of stop.End rest) good);
      text =
          ap text_of (outcomes_are n front rest begins _ ∙ ap (meaning n.tree n.leaf) joined ∙ meaning_more n.tree n.leaf _ (items_of width rest).items told
          ∙ ap (λ a. a ++ meaning n.tree n.leaf (items_of width rest).items) (sym (outcomes_are n front rest begins _))
          ∙ ap (λ b. meaning_of n (items_of width (block front)).items ++ b) (sym (outcomes_are n front rest begins _)))
          ∙ text_more (meaning_of n (items_of width (block front)).items) (meaning_of n (items_of width rest).items);
    }
