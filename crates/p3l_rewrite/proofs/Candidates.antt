-- Each candidate is the program with its pipe `main` written otherwise.
use Rattle.std.proofs.Common.{◌≡◌, ℕ, ◌⊎◌, inl, inr, Bool, true, false, cond, ◌&&◌, ◌||◌, not, List, [], ◌∷◌, ◌++◌, map, Option, Some, None, refl, ap, sym, ◌∙◌, subst}
use Rattle.std.specs.Prelude.{bytes_eq, codes, IfSome}
use Rattle.std.specs.List.{AllByRecursion, list_all}
use Rattle.std.specs.Option.{option_map}
use Rattle.std.proofs.lemmas.List.{append_cancel_right}
use Rattle.std.proofs.lemmas.Slice.Eq.{bytes_eq-Decides}
use Rattle.p3l_ast.specs.declared.call.Call.{Call}
use Rattle.p3l_ast.specs.declared.module.Kind.{Kind}
use Rattle.p3l_ast.specs.declared.module.Kind.TheVariants as kinds
use Rattle.p3l_ast.specs.Tree.{ModuleTree, EntryTree, ProgramTree, InsideTree, body, calls, turning, constant, defined}
use Rattle.p3l_skel.specs.declared.tree.Tree.{Tree}
use Rattle.p3l_skel.specs.Tree.{node_at, is_sequential}
use Rattle.p3l_check.specs.Resolving.{main_name}
use Rattle.p3l_rewrite.specs.Programs.{IsFarmOfName, HasFarm, AreFarmedCalls, IsMainPipe, IsRewrittenProgram}
use Rattle.p3l_rewrite.specs.Candidates.{Around, with_front, around_main, named_in, longer, farm_with, farm_of, is_among, with_farm, next_farms, farms_of, farm_called, with_calls, farmed_entries, work_of, fused_entries, is_pipe, has_name, ended, farmed_of, fused_of, ways_of, others_around, others, OthersAreRewritten}

-- the entries around `main`, with it, are all entries
pub record IsAround (entries : List EntryTree) (s : Around) : Type 0 where
  pub whole : entries ≡ s.front ++ defined s.main ∷ s.back
  pub name_is : s.main.at.name ≡ main_name

around_more : (entry : EntryTree) (entries : List EntryTree) (o : Option Around) → IfSome o (IsAround entries) → IfSome (option_map (with_front entry) o) (IsAround (entry ∷ entries))
around_more entry entries None h = tt
around_more entry entries (Some s) h = record { whole = ap (λ l. entry ∷ l) h.whole; name_is = h.name_is }

pub is_around : (entries : List EntryTree) → IfSome (around_main entries) (IsAround entries)
is_around [] = tt
is_around (constant at value ∷ entries) = around_more (constant at value) entries (around_main entries) (is_around entries)
is_around (defined m ∷ entries) = by (is_around entries) (bytes_eq m.at.name main_name) refl
  where
    by : IfSome (around_main entries) (IsAround entries) → (b : Bool) → bytes_eq m.at.name main_name ≡ b → IfSome (cond b (Some (record { front = []; main = m; back = entries })) (option_map (with_front (defined m)) (around_main entries))) (IsAround (defined m ∷ entries))
    by rest true e = record { whole = refl; name_is = (bytes_eq-Decides m.at.name main_name).0 e }
    by rest false e = around_more (defined m) entries (around_main entries) rest

-- a farm that was made has its worker's name with more behind it
IsMade : ModuleTree → Type 0
IsMade f = (worker : List ℕ) × (f.at.name ≡ worker ++ codes "_farm") × IsFarmOfName worker f

farm_made : (m : ModuleTree) → IsMade (farm_of m)
unfolding IsMade
farm_made m = (m.at.name, refl, record { call = _; is_written = record { kind_is = refl; inside_is = refl }; calls_it = refl })

made_more : (farms : List ModuleTree) (f : ModuleTree) → AllByRecursion IsMade farms → IsMade f → AllByRecursion IsMade (farms ++ f ∷ [])
made_more [] f all one = (one, tt)
made_more (g ∷ farms) f all one = (all.0, made_more farms f all.1 one)

made_with : (o : Option ModuleTree) (farms : List ModuleTree) → AllByRecursion IsMade farms → AllByRecursion IsMade (with_farm o farms)
made_with None farms all = all
made_with (Some m) farms all = made_more farms (farm_of m) all (farm_made m)

made_if : (b : Bool) (o : Option ModuleTree) (farms : List ModuleTree) → AllByRecursion IsMade farms → AllByRecursion IsMade (cond b (with_farm o farms) farms)
made_if true o farms all = made_with o farms all
made_if false o farms all = all

all_made : (front : List EntryTree) (tree : Tree) (farms : List ModuleTree) (cs : List Call) (parts : List ℕ) → AllByRecursion IsMade farms → AllByRecursion IsMade (farms_of front tree farms cs parts)
all_made front tree farms [] parts all = all
all_made front tree farms (c ∷ cs) [] all = all
all_made front tree farms (c ∷ cs) (p ∷ ps) all =
    all_made front tree (next_farms front (is_sequential tree p) farms c) cs ps
    (made_if (is_sequential tree p && not (is_among farms (c.at.name ++ codes "_farm"))) (named_in front c.at.name) farms all)

-- a farm that was made of this name is of this worker
worker_is : (f : ModuleTree) (name : List ℕ) → f.at.name ≡ name ++ codes "_farm" → IsMade f → IsFarmOfName name f
unfolding IsMade
worker_is f name same made = subst (λ w. IsFarmOfName w f) (append_cancel_right made.0 name (codes "_farm") (sym made.1 ∙ same)) made.2

-- one of these names is the farm of its worker
has_farm : (farms : List ModuleTree) (name : List ℕ) → AllByRecursion IsMade farms → is_among farms (name ++ codes "_farm") ≡ true → HasFarm farms (name ++ codes "_farm") name
has_farm [] name all e = absurd cc
has_farm (f ∷ farms) name all e = by (has_farm farms name all.1) (bytes_eq f.at.name (name ++ codes "_farm")) refl e
  where
    by : (is_among farms (name ++ codes "_farm") ≡ true → HasFarm farms (name ++ codes "_farm") name) → (b : Bool) → bytes_eq f.at.name (name ++ codes "_farm") ≡ b → b || is_among farms (name ++ codes "_farm") ≡ true
        → HasFarm (f ∷ farms) (name ++ codes "_farm") name
    by later true own e =
        let same : f.at.name ≡ name ++ codes "_farm" = (bytes_eq-Decides f.at.name (name ++ codes "_farm")).0 own in
        inl (same, worker_is f name same all.0)
    by later false own e = inr (later e)

farmed_calls : (farms : List ModuleTree) (cs : List Call) → AllByRecursion IsMade farms → AreFarmedCalls farms (map (farm_called farms) cs) cs
farmed_calls farms [] all = tt
farmed_calls farms (c ∷ cs) all = (by (is_among farms (c.at.name ++ codes "_farm")) refl, farmed_calls farms cs all)
  where
    by : (b : Bool) → is_among farms (c.at.name ++ codes "_farm") ≡ b
        → ((cond b (record { at = longer (codes "_farm") c.at; ins = c.ins; outs = c.outs }) c).at.name ≡ c.at.name)
        ⊎ HasFarm farms (cond b (record { at = longer (codes "_farm") c.at; ins = c.ins; outs = c.outs }) c).at.name c.at.name
    by true e = inr (has_farm farms c.at.name all e)
    by false e = inl refl

pub all_both : (P : ProgramTree → Type 0) (xs ys : List ProgramTree) → AllByRecursion P xs → AllByRecursion P ys → AllByRecursion P (xs ++ ys)
all_both P [] ys a b = b
all_both P (x ∷ xs) ys a b = (a.0, all_both P xs ys a.1 b)

pub if_all : (P : ProgramTree → Type 0) (b : Bool) (x : ProgramTree) → P x → AllByRecursion P (cond b (x ∷ []) [])
if_all P true x h = (h, tt)
if_all P false x h = tt

module _ (program : ProgramTree) (tree : Tree) (s : Around) (around : IsAround program.entries s) (kind : s.main.kind ≡ kinds.Pipe) where
  main_is : (cs : List Call) → s.main.inside ≡ calls cs → IsMainPipe program s.front cs
  main_is cs inside = record {
    pipe = s.main;
    back = s.back;
    entries_are = around.whole;
    name_is = around.name_is;
    is_written = record { kind_is = kind; inside_is = inside };
  }

  farmed_is : (farms : List ModuleTree) (cs : List Call) → AllByRecursion IsMade farms → s.main.inside ≡ calls cs → IsRewrittenProgram program (ended program (farmed_entries s farms cs))
  farmed_is farms cs all inside = record {
    front = s.front;
    cs = cs;
    main_is = main_is cs inside;
    is = inl (record {
      farms = farms;
      its_calls = map (farm_called farms) cs;
      its_main = record {
        pipe = with_calls s.main (map (farm_called farms) cs);
        back = s.back;
        entries_are = refl;
        name_is = around.name_is;
        is_written = record { kind_is = kind; inside_is = refl };
      };
      farmed = farmed_calls farms cs all;
    });
  }

  fused_is : (cs : List Call) → s.main.inside ≡ calls cs → IsRewrittenProgram program (ended program (fused_entries s cs))
  fused_is cs inside = record {
    front = s.front;
    cs = cs;
    main_is = main_is cs inside;
    is = inr (record {
      work = work_of s.main cs;
      farm = farm_with s.main.at (longer (codes "_work") s.main.at) s.main.ins s.main.outs;
      back = s.back;
      entries_are = refl;
      work_is = record { kind_is = refl; inside_is = refl };
      plain = refl;
      name_is = around.name_is;
      farm_is = record { call = _; is_written = record { kind_is = refl; inside_is = refl }; calls_it = refl };
    });
  }

  by_inside : (inside : InsideTree) → s.main.inside ≡ inside → AllByRecursion (IsRewrittenProgram program) (ways_of program tree s inside)
  by_inside (body ports statements) e = tt
  by_inside (turning c d) e = tt
  by_inside (calls cs) e =
      all_both (IsRewrittenProgram program) (farmed_of program tree s cs) (fused_of program tree s cs)
      (if_all (IsRewrittenProgram program) (list_all has_name farms) _ (farmed_is farms cs (all_made s.front tree [] cs (node_at tree 0).parts tt) e))
      (if_all (IsRewrittenProgram program) (list_all (is_sequential tree) (node_at tree 0).parts) _ (fused_is cs e))
    where
      farms : List ModuleTree
      farms = farms_of s.front tree [] cs (node_at tree 0).parts

by_kind : (program : ProgramTree) (tree : Tree) (s : Around) → IsAround program.entries s → (kind : Kind) → s.main.kind ≡ kind → AllByRecursion (IsRewrittenProgram program) (cond (is_pipe kind) (ways_of program tree s s.main.inside) [])
by_kind program tree s around kinds.Pipe e = by_inside program tree s around e s.main.inside refl
by_kind program tree s around kinds.Seq e = tt
by_kind program tree s around kinds.Comp e = tt
by_kind program tree s around kinds.Farm e = tt
by_kind program tree s around kinds.Map e = tt
by_kind program tree s around kinds.Reduce e = tt
by_kind program tree s around kinds.Loop e = tt

pub others_are : OthersAreRewritten
unfolding others
others_are program tree = by (around_main program.entries) (is_around program.entries)
  where
    by : (o : Option Around) → IfSome o (IsAround program.entries) → AllByRecursion (IsRewrittenProgram program) (others_around program tree o)
    by None h = tt
    by (Some s) h = by_kind program tree s h s.main.kind refl
