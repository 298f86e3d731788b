-- Each of the programs that a program may be rewritten to has a text, where the program has one.
use Rattle.std.proofs.Common.{◌≡◌, ℕ, Bool, true, false, cond, ◌||◌, ◌&&◌, not, List, [], ◌∷◌, ◌++◌, map, length, Option, Some, None, refl, sym, subst, codes}
use Rattle.std.specs.Prelude.{bytes_eq, IfSome}
use Rattle.std.specs.List.{AllByRecursion, list_all}
use Rattle.std.proofs.lemmas.Bool.{leb-true}
use Rattle.std.proofs.lemmas.Slice.Eq.{bytes_eq-Decides}
use Rattle.p3l_ast.specs.declared.position.Spot.{Spot}
use Rattle.p3l_ast.specs.declared.call.Call.{Call}
use Rattle.p3l_ast.specs.declared.module.Kind.{Kind}
use Rattle.p3l_ast.specs.declared.module.Kind.TheVariants as kinds
use Rattle.p3l_ast.specs.Tree.{ModuleTree, EntryTree, ProgramTree, InsideTree, body, calls, turning, constant, defined}
use Rattle.p3l_lexer.specs.declared.token.Lexeme.TheVariants.{Word}
use Rattle.p3l_lexer.specs.declared.token.Piece.TheVariants.{Token}
use Rattle.p3l_lexer.specs.Piece.{piece_of}
use Rattle.p3l_lexer.proofs.Truths.{and_left, and_right}
use Rattle.p3l_grammar.specs.Symbol.{word}
use Rattle.p3l_print.proofs.Writing.{IsWritable}
use Rattle.p3l_skel.specs.declared.tree.Tree.{Tree}
use Rattle.p3l_skel.specs.Tree.{node_at, is_sequential}
use Rattle.p3l_print.specs.Program.{HasText}
use Rattle.p3l_print.proofs.Joining.{IsSpelled, entries_spelled, joined_has_text}
use Rattle.p3l_rewrite.specs.Candidates.{Around, around_main, named_in, longer, farm_of, is_among, with_farm, next_farms, farms_of, farm_called, with_calls, farmed_entries, fused_entries, is_pipe, has_name, ended, farmed_of, fused_of, ways_of, others_around, others}
use Rattle.p3l_rewrite.specs.Texts.{OthersHaveTexts}
use Rattle.p3l_rewrite.proofs.Candidates.{IsAround, is_around, all_both}
use Rattle.p3l_rewrite.proofs.Names.{farm_name, work_name}
use Rattle.p3l_rewrite.proofs.Spelled.{HasHead, has_head, farm_spelled, is_pipe as pipe_of, work_spelled, FarmsAreNamed, main_spelled}

-- farms of modules that stand before `main`

abbrev IsMade : ModuleTree → Type 0
IsMade f = (m : ModuleTree) × (f ≡ farm_of m) × HasHead m

named_head : (front : List EntryTree) (name : List ℕ) → AllByRecursion IsSpelled front → IfSome (named_in front name) HasHead
named_head [] name all = tt
named_head (constant at value ∷ entries) name all = named_head entries name all.1
named_head (defined m ∷ entries) name all = by (bytes_eq m.at.name name) (named_head entries name all.1)
  where
    by : (b : Bool) → IfSome (named_in entries name) HasHead → IfSome (cond b (Some m) (named_in entries name)) HasHead
    by true later = has_head m all.0
    by false later = later

made_more : (farms : List ModuleTree) (f : ModuleTree) → AllByRecursion IsMade farms → IsMade f → AllByRecursion IsMade (farms ++ f ∷ [])
made_more [] f all one = (one, tt)
made_more (g ∷ farms) f all one = (all.0, made_more farms f all.1 one)

made_with : (o : Option ModuleTree) (farms : List ModuleTree) → IfSome o HasHead → AllByRecursion IsMade farms → AllByRecursion IsMade (with_farm o farms)
made_with None farms head all = all
made_with (Some m) farms head all = made_more farms (farm_of m) all (m, refl, head)

all_made : (front : List EntryTree) (tree : Tree) (farms : List ModuleTree) (cs : List Call) (parts : List ℕ) → AllByRecursion IsSpelled front → AllByRecursion IsMade farms
    → AllByRecursion IsMade (farms_of front tree farms cs parts)
all_made front tree farms [] parts spelled all = all
all_made front tree farms (c ∷ cs) [] spelled all = all
all_made front tree farms (c ∷ cs) (p ∷ ps) spelled all =
    all_made front tree (next_farms front (is_sequential tree p) farms c) cs ps spelled
    (by (is_sequential tree p && not (is_among farms (c.at.name ++ codes "_farm"))))
  where
    by : (b : Bool) → AllByRecursion IsMade (cond b (with_farm (named_in front c.at.name) farms) farms)
    by true = made_with (named_in front c.at.name) farms (named_head front c.at.name spelled) all
    by false = all

-- they are spelled, if their names are short enough

abbrev IsNamed : ModuleTree → Type 0
IsNamed f = IsSpelled (defined f) × IsWritable (word f.at)

farm_named : (f : ModuleTree) → IsMade f → has_name f ≡ true → IsNamed f
farm_named f made short = subst IsNamed (sym made.1) (farm_spelled at m.at m named head.named head, named)
  where
    m : ModuleTree
    m = made.0

    head : HasHead m
    head = made.2

    at : Spot
    at = longer (codes "_farm") m.at

    named : IsWritable (word at)
    named = farm_name m.at head.named (leb-true (length at.name) 64 (subst (λ g. has_name g ≡ true) made.1 short))

all_named : (farms : List ModuleTree) → AllByRecursion IsMade farms → list_all has_name farms ≡ true → AllByRecursion IsNamed farms
all_named [] all short = tt
all_named (f ∷ farms) all short = (farm_named f all.0 (and_left (has_name f) _ short), all_named farms all.1 (and_right (has_name f) _ short))

farms_named : (farms : List ModuleTree) → AllByRecursion IsNamed farms → FarmsAreNamed farms
farms_named [] all x among = absurd cc
farms_named (f ∷ farms) all x among = by (farms_named farms all.1 x) (bytes_eq f.at.name (x.name ++ codes "_farm")) refl among
  where
    by : (is_among farms (x.name ++ codes "_farm") ≡ true → IsWritable (word (longer (codes "_farm") x))) → (b : Bool) → bytes_eq f.at.name (x.name ++ codes "_farm") ≡ b → (b || is_among farms (x.name ++ codes "_farm")) ≡ true → IsWritable (word (longer (codes "_farm") x))
    by later true own e =
        subst (λ n. piece_of n ≡ Some (Token (Word n))) ((bytes_eq-Decides f.at.name (x.name ++ codes "_farm")).0 own) all.0.1
    by later false own e = later e

farms_spelled : (farms : List ModuleTree) → AllByRecursion IsNamed farms → AllByRecursion IsSpelled (map (λ m. defined m) farms)
farms_spelled [] all = tt
farms_spelled (f ∷ farms) all = (all.0.0, farms_spelled farms all.1)

-- entries around one

all_around : (xs : List EntryTree) (y : EntryTree) (ys : List EntryTree) → AllByRecursion IsSpelled (xs ++ y ∷ ys) → AllByRecursion IsSpelled xs × IsSpelled y × AllByRecursion IsSpelled ys
all_around [] y ys all = (tt, all.0, all.1)
all_around (x ∷ xs) y ys all = let h = all_around xs y ys all.1 in ((all.0, h.0), h.1, h.2)

entries_both : (xs ys : List EntryTree) → AllByRecursion IsSpelled xs → AllByRecursion IsSpelled ys → AllByRecursion IsSpelled (xs ++ ys)
entries_both [] ys a b = b
entries_both (x ∷ xs) ys a b = (a.0, entries_both xs ys a.1 b)

if_text : (b : Bool) (x : ProgramTree) → (b ≡ true → HasText x) → AllByRecursion HasText (cond b (x ∷ []) [])
if_text true x h = (h refl, tt)
if_text false x h = tt

module _ (program : ProgramTree) (tree : Tree) (s : Around) (around : IsAround program.entries s) (kind : s.main.kind ≡ kinds.Pipe) (all : AllByRecursion IsSpelled program.entries) where
  parts : AllByRecursion IsSpelled s.front × IsSpelled (defined s.main) × AllByRecursion IsSpelled s.back
  parts = all_around s.front (defined s.main) s.back (subst (AllByRecursion IsSpelled) around.whole all)

  farmed_text : (farms : List ModuleTree) (cs : List Call) → s.main.inside ≡ calls cs → AllByRecursion IsMade farms → list_all has_name farms ≡ true → HasText (ended program (farmed_entries s farms cs))
  farmed_text farms cs inside made short =
      let named = all_named farms made short in
      let main : IsSpelled (defined (with_calls s.main (map (farm_called farms) cs))) = main_spelled farms (farms_named farms named) s.main cs (pipe_of s.main cs kind inside parts.1) in
      joined_has_text (ended program (farmed_entries s farms cs))
      (entries_both (s.front ++ map (λ m. defined m) farms) (defined (with_calls s.main (map (farm_called farms) cs)) ∷ s.back)
      (entries_both s.front (map (λ m. defined m) farms) parts.0 (farms_spelled farms named)) (main, parts.2))

  fused_text : (cs : List Call) → s.main.inside ≡ calls cs → HasText (ended program (fused_entries s cs))
  fused_text cs inside =
      let work = work_spelled s.main cs around.name_is (pipe_of s.main cs kind inside parts.1) in
      let head = has_head s.main parts.1 in
      let farm = farm_spelled s.main.at (longer (codes "_work") s.main.at) s.main head.named (work_name s.main.at around.name_is) head in
      joined_has_text (ended program (fused_entries s cs))
      (entries_both s.front _ parts.0 (work, (farm, parts.2)))

  by_inside : (inside : InsideTree) → s.main.inside ≡ inside → AllByRecursion HasText (ways_of program tree s inside)
  by_inside (body ports statements) e = tt
  by_inside (turning c d) e = tt
  by_inside (calls cs) e =
      all_both HasText (farmed_of program tree s cs) (fused_of program tree s cs)
      (if_text (list_all has_name farms) _ (farmed_text farms cs e (all_made s.front tree [] cs (node_at tree 0).parts parts.0 tt)))
      (if_text (list_all (is_sequential tree) (node_at tree 0).parts) _ (λ sequential. fused_text cs e))
    where
      farms : List ModuleTree
      farms = farms_of s.front tree [] cs (node_at tree 0).parts

by_kind : (program : ProgramTree) (tree : Tree) (s : Around) → IsAround program.entries s → AllByRecursion IsSpelled program.entries → (kind : Kind) → s.main.kind ≡ kind → AllByRecursion HasText (cond (is_pipe kind) (ways_of program tree s s.main.inside) [])
by_kind program tree s around all kinds.Pipe e = by_inside program tree s around e all s.main.inside refl
by_kind program tree s around all kinds.Seq e = tt
by_kind program tree s around all kinds.Comp e = tt
by_kind program tree s around all kinds.Farm e = tt
by_kind program tree s around all kinds.Map e = tt
by_kind program tree s around all kinds.Reduce e = tt
by_kind program tree s around all kinds.Loop e = tt

pub others_have_texts : OthersHaveTexts
unfolding others
others_have_texts text program tree spells = by (around_main program.entries) (is_around program.entries)
  where
    by : (o : Option Around) → IfSome o (IsAround program.entries) → AllByRecursion HasText (others_around program tree o)
    by None h = tt
    by (Some s) h = by_kind program tree s h (entries_spelled text program spells) s.main.kind refl
