-- The ways to write a program have few entries more than it has.
use Rattle.std.proofs.Common.{◌≡◌, ℕ, zero, suc, ◌+◌, ◌<◌, ◌≤◌, ◌⊎◌, inl, inr, Bool, true, false, cond, not, ◌&&◌, List, [], ◌∷◌, ◌++◌, length, map, Option, Some, None, Result, Ok, Err, IsErrAnd, sym, ap, ◌∙◌, subst, arith, length-append}
use Rattle.std.specs.Prelude.{codes, IfSome}
use Rattle.std.specs.List.{AllByRecursion, list_all}
use Rattle.std.proofs.lemmas.List.{length-map}
use Rattle.p3l_base.specs.Memory.{Refused, IfGiven, IfGivenOr}
use Rattle.p3l_ast.specs.declared.call.Call.{Call}
use Rattle.p3l_ast.specs.Tree.{ModuleTree, EntryTree, ProgramTree, InsideTree, body, calls, turning, defined}
use Rattle.p3l_skel.specs.declared.tree.Tree.{Tree}
use Rattle.p3l_skel.specs.Tree.{node_at, is_sequential, nesting}
use Rattle.p3l_skel.specs.Lawful.{AreSubtrees, IsSubtree, IsLawfulTree}
use Rattle.p3l_skel.proofs.Depth.{IsSubtree-grows}
use Rattle.p3l_rewrite.specs.Candidates.{Around, around_main, named_in, longer, farm_with, farm_of, work_of, with_farm, next_farms, farms_of, is_among, farm_called, with_calls, farmed_entries, fused_entries, is_pipe, has_name, ended, ways_of, others_around, others}
use Rattle.p3l_rewrite.specs.Rewriting.{listed}
use Rattle.p3l_rewrite.specs.Serving.{HasMany, MayBeMany}
use Rattle.p3l_rewrite.proofs.Candidates.{IsAround, is_around, all_both, if_all}

-- parts that follow one another are no more than the nodes that they have
parts_few : (d : ℕ) (tree : Tree) (ps : List ℕ) (from next : ℕ) → AreSubtrees (IsSubtree d tree) ps from next → from + length ps ≤ next
parts_few d tree [] from next are = omega (arith, are)
parts_few d tree (p ∷ ps) from next are =
    let grows : p < are.1.0 = IsSubtree-grows d tree p are.1.0 are.1.1 in
    let rest : are.1.0 + length ps ≤ next = parts_few d tree ps are.1.0 next are.1.2 in
    omega (arith, are.0, grows, rest)

root_few : (d : ℕ) (tree : Tree) (next : ℕ) → IsSubtree d tree 0 next → length (node_at tree 0).parts < next
unfolding IsSubtree
root_few zero tree next is = absurd is
root_few (suc d) tree next is =
    let few : (0 + 1) + length (node_at tree 0).parts ≤ next = parts_few d tree (node_at tree 0).parts (0 + 1) next is.1 in
    omega (arith, few)

-- each part gives one farm at most
farm_few : (o : Option ModuleTree) (farms : List ModuleTree) → length (with_farm o farms) ≤ length farms + 1
farm_few None farms = omega arith
farm_few (Some m) farms = omega (arith, length-append farms (farm_of m ∷ []))

next_few : (b : Bool) (o : Option ModuleTree) (farms : List ModuleTree) → length (cond b (with_farm o farms) farms) ≤ length farms + 1
next_few true o farms = farm_few o farms
next_few false o farms = omega arith

farms_few : (front : List EntryTree) (tree : Tree) (farms : List ModuleTree) (cs : List Call) (parts : List ℕ) → length (farms_of front tree farms cs parts) ≤ length farms + length parts
farms_few front tree farms [] parts = omega arith
farms_few front tree farms (c ∷ cs) [] = omega arith
farms_few front tree farms (c ∷ cs) (p ∷ ps) =
    let here : length (next_farms front (is_sequential tree p) farms c) ≤ length farms + 1 =
    next_few (is_sequential tree p && not (is_among farms (c.at.name ++ codes "_farm"))) (named_in front c.at.name) farms in
    let rest = farms_few front tree (next_farms front (is_sequential tree p) farms c) cs ps in
    omega (arith, here, rest)

-- no more entries than a program has, and those of a tree's nodes
HasFew : ProgramTree → ProgramTree → Type 0
HasFew program other = length other.entries ≤ length program.entries + 128

module _ (program : ProgramTree) (tree : Tree) (lawful : IsLawfulTree tree) where
  root_parts_few : length (node_at tree 0).parts < 128
  root_parts_few =
      let few = root_few nesting tree (length tree.nodes) lawful.preorder in omega (arith, few, lawful.few_nodes)

  module _ (s : Around) (around : IsAround program.entries s) where
    around_length : length program.entries ≡ length s.front + suc (length s.back)
    around_length = ap length around.whole ∙ length-append s.front (defined s.main ∷ s.back)

    farmed_few : (cs : List Call) → HasFew program (ended program (farmed_entries s (farms_of s.front tree [] cs (node_at tree 0).parts) cs))
    unfolding HasFew
    farmed_few cs =
        let farms : List ModuleTree = farms_of s.front tree [] cs (node_at tree 0).parts in
        let few : length farms ≤ 0 + length (node_at tree 0).parts = farms_few s.front tree [] cs (node_at tree 0).parts in
        let main = defined (with_calls s.main (map (farm_called farms) cs)) in
        let all : length ((s.front ++ map (λ m. defined m) farms) ++ main ∷ s.back) ≡ length (s.front ++ map (λ m. defined m) farms) + suc (length s.back) =
        length-append (s.front ++ map (λ m. defined m) farms) (main ∷ s.back) in
        let front : length (s.front ++ map (λ m. defined m) farms) ≡ length s.front + length (map (λ m. defined m) farms) = length-append s.front (map (λ m. defined m) farms) in
        let made : length (map (λ (m : ModuleTree). defined m) farms) ≡ length farms = length-map farms (λ m. defined m) in
        omega (arith, few, all, front, made, around_length, root_parts_few)

    fused_few : (cs : List Call) → HasFew program (ended program (fused_entries s cs))
    unfolding HasFew
    fused_few cs =
        let all : length (fused_entries s cs) ≡ length s.front + suc (suc (length s.back)) =
        length-append s.front (defined (work_of s.main cs) ∷ (defined (farm_with s.main.at (longer (codes "_work") s.main.at) s.main.ins s.main.outs) ∷ s.back)) in
        omega (arith, all, around_length)

    ways_few : (inside : InsideTree) → AllByRecursion (HasFew program) (ways_of program tree s inside)
    ways_few (body ports statements) = tt
    ways_few (turning c d) = tt
    ways_few (calls cs) =
        all_both (HasFew program) _ _
        (if_all (HasFew program) (list_all has_name (farms_of s.front tree [] cs (node_at tree 0).parts)) _ (farmed_few cs))
        (if_all (HasFew program) (list_all (is_sequential tree) (node_at tree 0).parts) _ (fused_few cs))

    around_few : AllByRecursion (HasFew program) (others_around program tree (Some s))
    around_few = by (is_pipe s.main.kind)
      where
        by : (b : Bool) → AllByRecursion (HasFew program) (cond b (ways_of program tree s s.main.inside) [])
        by true = ways_few s.main.inside
        by false = tt

  others_few : AllByRecursion (HasFew program) (others program tree)
  unfolding others
  others_few = by (around_main program.entries) (is_around program.entries)
    where
      by : (o : Option Around) → IfSome o (IsAround program.entries) → AllByRecursion (HasFew program) (others_around program tree o)
      by None is = tt
      by (Some s) is = around_few s is

  if_few : (o : Option ProgramTree) → AllByRecursion (HasFew program) (listed o) → HasMany o → MayBeMany program
  unfolding HasFew
  if_few None all many = absurd many
  if_few (Some q) all many = omega (arith, all.0, many)

  -- one of the ways that is too long shows that the program is
  pub first_many : (one two : Option ProgramTree) → listed one ++ listed two ≡ others program tree → HasMany one → MayBeMany program
  first_many one two are = if_few one (all_left (listed one) (listed two) (subst (AllByRecursion (HasFew program)) (sym are) others_few))
    where
      all_left : (xs ys : List ProgramTree) → AllByRecursion (HasFew program) (xs ++ ys) → AllByRecursion (HasFew program) xs
      all_left [] ys all = tt
      all_left (x ∷ xs) ys all = (all.0, all_left xs ys all.1)

  pub second_many : (one two : Option ProgramTree) → listed one ++ listed two ≡ others program tree → HasMany two → MayBeMany program
  second_many one two are = if_few two (all_right (listed one) (listed two) (subst (AllByRecursion (HasFew program)) (sym are) others_few))
    where
      all_right : (xs ys : List ProgramTree) → AllByRecursion (HasFew program) (xs ++ ys) → AllByRecursion (HasFew program) ys
      all_right [] ys all = all
      all_right (x ∷ xs) ys all = all_right xs ys all.1

-- a last call whose result is returned
pub given_weaker : {X E : Type 0} (r : Result X E) (P Q : X → Type 0) (A B : Type 0) → ((x : X) → P x → Q x) → (A → B) → IfGivenOr r P A → IfGivenOr r Q B
given_weaker (Ok x) P Q A B f g h = f x h
given_weaker (Err e) P Q A B f g (inl h) = inl h
given_weaker (Err e) P Q A B f g (inr h) = inr (g h)

pub given_or : {X E : Type 0} (r : Result X E) (P Q : X → Type 0) (B : Type 0) → ((x : X) → P x → Q x) → IfGiven r P → IfGivenOr r Q B
given_or (Ok x) P Q B f h = f x h
given_or (Err e) P Q B f h = inl h

-- an error that is handed on
pub handed_many : {X E : Type 0} (r : Result X E) (P : X → Type 0) (Q : E → Type 0) (A B : Type 0) → IsErrAnd r Q → (A → B) → Refused ⊎ A → IfGivenOr r P B
handed_many (Ok x) P Q A B is g h = absurd is
handed_many (Err e) P Q A B is g (inl h) = inl h
handed_many (Err e) P Q A B is g (inr h) = inr (g h)
