-- The wirings of a program and of one that is written otherwise.
use Rattle.std.proofs.Common.{◌≡◌, ℕ, ◌⊎◌, inl, inr, List, [], ◌∷◌, ◌++◌, map, length, Option, Some, None, Ok, refl, ap, sym, ◌∙◌, subst}
use Rattle.p3l_ast.specs.declared.call.Call.{Call}
use Rattle.p3l_ast.specs.declared.module.Kind.TheVariants as kinds
use Rattle.p3l_ast.specs.Tree.{ModuleTree, EntryTree, defined}
use Rattle.p3l_skel.specs.declared.tree.Form.TheVariants as forms
use Rattle.p3l_check.specs.Wiring.{module_at}
use Rattle.p3l_body.specs.Seq.{rescue_of}
use Rattle.p3l_check.specs.Clauses.{rescue_in}
use Rattle.p3l_check.specs.Modules.{Modules, number_of}
use Rattle.p3l_check.specs.Entry.{Checked, before_in, checked_entries}
use Rattle.p3l_check.specs.Skeleton.{skeleton_of}
use Rattle.p3l_rewrite.specs.Trees.{IsFarmOf, AreFarmed, IsFarmed, IsFused}
use Rattle.p3l_rewrite.specs.Programs.{IsWritten, IsFarmOfName, HasFarm, AreFarmedCalls}
use Rattle.p3l_rewrite.proofs.Added.{ok_same}
use Rattle.p3l_rewrite.proofs.Ahead.{parted}
use Rattle.p3l_rewrite.proofs.Made.{AreNamed, IsMadeOf, pipe_made, comp_made, IsFarmMade, farm_made}
use Rattle.p3l_rewrite.proofs.Entries.{IsFirst, number_stays, first_of_them}

pub one_number : (o : Option ℕ) (m n : ℕ) → o ≡ Some m → o ≡ Some n → m ≡ n
one_number o m n a b = some_same m n (sym a ∙ b)
  where
    some_same : (m n : ℕ) → (λ (k : ℕ). Some k) m ≡ (λ (k : ℕ). Some k) n → m ≡ n
    some_same m n e = cc

-- names have one number each
named_same : (modules : Modules) (cs : List Call) (ks ls : List ℕ) → AreNamed modules cs ks → AreNamed modules cs ls → ks ≡ ls
unfolding AreNamed
named_same modules [] [] [] a b = refl
named_same modules [] [] (l ∷ ls) a b = absurd b
named_same modules [] (k ∷ ks) ls a b = absurd a
named_same modules (c ∷ cs) [] ls a b = absurd a
named_same modules (c ∷ cs) (k ∷ ks) [] a b = absurd b
named_same modules (c ∷ cs) (k ∷ ks) (l ∷ ls) a b =
    ap (λ n. n ∷ ks) (one_number (number_of modules c.at.name) k l a.0 b.0) ∙ ap (λ ns. l ∷ ns) (named_same modules cs ks ls a.1 b.1)

module _ (checked all : Checked) (m : ModuleTree) (back : List EntryTree) (first : IsFirst checked all m back) where
  pub first_pipe : (cs : List Call) → IsWritten kinds.Pipe cs m → IsMadeOf checked.modules forms.Pipe cs first.skeleton
  first_pipe cs is =
      pipe_made (before_in checked first.is_ahead) m first.ports cs first.skeleton is.inside_is
      (subst (λ k. skeleton_of k (before_in checked first.is_ahead) m first.ports ≡ Ok first.skeleton) is.kind_is first.made)

  pub first_comp : (cs : List Call) → IsWritten kinds.Comp cs m → IsMadeOf checked.modules forms.Comp cs first.skeleton
  first_comp cs is =
      comp_made (before_in checked first.is_ahead) m first.ports cs first.skeleton is.inside_is
      (subst (λ k. skeleton_of k (before_in checked first.is_ahead) m first.ports ≡ Ok first.skeleton) is.kind_is first.made)

  -- a comp without a rescue has no rescue number
  pub first_plain : (cs : List Call) → IsWritten kinds.Comp cs m → m.clauses.rescue ≡ None → first.rescue ≡ None
  first_plain cs is plain =
      sym (ok_same None first.rescue
      (ap (rescue_of checked.constants) (sym plain) ∙ ap (λ kind. rescue_in kind m.at.pos checked.constants m.clauses) (sym is.kind_is) ∙ first.rescues))

  -- a farm of the module that has this number in the end
  pub first_farm : (worker : List ℕ) (c : ℕ) → number_of all.modules worker ≡ Some c → IsFarmOfName worker m → IsFarmOf all.modules.callables (length checked.modules.callables) c
  first_farm worker c number is =
      let made : IsFarmMade checked.modules is.call first.skeleton =
      farm_made (before_in checked first.is_ahead) m first.ports is.call first.skeleton is.is_written.inside_is
      (subst (λ k. skeleton_of k (before_in checked first.is_ahead) m first.ports ≡ Ok first.skeleton) is.is_written.kind_is first.made) in
      let entries : checked_entries checked (defined m ∷ back) ≡ Ok all = first.entries in
      let named : number_of all.modules worker ≡ Some made.worker =
      number_stays checked all (defined m ∷ back) worker made.worker entries (ap (number_of checked.modules) (sym is.calls_it) ∙ made.named) in
      record {
        there = first.there;
        workers = made.workers;
        form = first.form ∙ made.form_is;
        calls = first.calls ∙ made.calls_are ∙ ap (λ n. n ∷ []) (one_number (number_of all.modules worker) made.worker c named number);
      }

-- a farm among farms that were accepted, with its number
record IsFound (all : Checked) (name : List ℕ) (c : ℕ) : Type 0 where
  farm : ℕ
  number : number_of all.modules name ≡ Some farm
  is : IsFarmOf all.modules.callables farm c

farm_found : (checked all : Checked) (farms : List ModuleTree) (tail : List EntryTree) (name worker : List ℕ) (c : ℕ) → length checked.modules.callables ≡ length checked.modules.infos
    → checked_entries checked (map (λ m. defined m) farms ++ tail) ≡ Ok all → number_of all.modules worker ≡ Some c → HasFarm farms name worker → IsFound all name c
farm_found checked all [] tail name worker c even e number has = absurd has
farm_found checked all (f ∷ farms) tail name worker c even e number (inl here) =
    let first = first_of_them checked all f (map (λ m. defined m) farms ++ tail) even e in record {
      farm = length checked.modules.callables;
      number = ap (number_of all.modules) (sym here.0) ∙ first.number;
      is = first_farm checked all f (map (λ m. defined m) farms ++ tail) first worker c number here.1;
    }
farm_found checked all (f ∷ farms) tail name worker c even e number (inr later) =
    let first = first_of_them checked all f (map (λ m. defined m) farms ++ tail) even e in
    farm_found first.next all farms tail name worker c first.even first.rest number later

-- the state after farms keeps as many names as wirings
even_after : (checked middle : Checked) (farms : List ModuleTree) → length checked.modules.callables ≡ length checked.modules.infos → checked_entries checked (map (λ m. defined m) farms) ≡ Ok middle
    → length middle.modules.callables ≡ length middle.modules.infos
even_after checked middle [] even e = subst (λ (c : Checked). length c.modules.callables ≡ length c.modules.infos) (one_result checked middle e) even
  where
    one_result : (a b : Checked) → checked_entries a [] ≡ Ok b → a ≡ b
    one_result a b e = cc
even_after checked middle (f ∷ farms) even e =
    let first = first_of_them checked middle f (map (λ m. defined m) farms) even e in
    even_after first.next middle farms first.even first.rest

module _ (checked last all : Checked) (cs : List Call) (pipe : ModuleTree) (back : List EntryTree) (even : length checked.modules.callables ≡ length checked.modules.infos)
    (entries : checked_entries checked (defined pipe ∷ back) ≡ Ok last) (written : IsWritten kinds.Pipe cs pipe) where
  abbrev pub first : IsFirst checked last pipe back
  first = first_of_them checked last pipe back even entries

  pub was_made : IsMadeOf checked.modules forms.Pipe cs first.skeleton
  was_made = first_pipe checked last pipe back first cs written

  -- the pipe's number is how many modules there are before it
  pub was_number : number_of last.modules pipe.at.name ≡ Some (length checked.modules.callables)
  was_number = first.number

  pub fused : (work farm : ModuleTree) (its_back : List EntryTree) → checked_entries checked (defined work ∷ (defined farm ∷ its_back)) ≡ Ok all → IsWritten kinds.Comp cs work → work.clauses.rescue ≡ None → IsFarmOfName work.at.name farm
      → (j : ℕ) × (number_of all.modules farm.at.name ≡ Some j) × IsFused last.modules.callables (length checked.modules.callables) all.modules.infos all.modules.callables j
  fused work farm its_back e work_is plain farm_is =
      let w = first_of_them checked all work (defined farm ∷ its_back) even e in
      let f = first_of_them w.next all farm its_back w.even w.rest in
      let made = first_comp checked all work (defined farm ∷ its_back) w cs work_is in (
        length w.next.modules.callables,
        f.number,
        record {
          was = first.form ∙ was_made.form_is;
          work = length checked.modules.callables;
          farm = first_farm w.next all farm its_back f work.at.name (length checked.modules.callables) w.number farm_is;
          comp = record {
            there = w.there;
            form = w.form ∙ made.form_is;
            plain = w.rescue_is ∙ first_plain checked all work (defined farm ∷ its_back) w cs work_is plain;
            calls = w.calls ∙ named_same checked.modules cs w.skeleton.calls first.skeleton.calls made.named was_made.named ∙ sym first.calls;
          };
        },
      )

  -- each call is what it was, or a farm of that
  farmed_calls : (middle : Checked) (tail : List EntryTree) (farms : List ModuleTree) → checked_entries checked (map (λ m. defined m) farms ++ tail) ≡ Ok all → checked_entries middle tail ≡ Ok all
      → (ds es : List Call) (js ks : List ℕ) → AreFarmedCalls farms ds es → AreNamed middle.modules ds js → AreNamed checked.modules es ks → AreFarmed all.modules.callables js ks
  unfolding AreNamed
  farmed_calls middle tail farms e m [] [] [] [] are a b = tt
  farmed_calls middle tail farms e m [] [] [] (k ∷ ks) are a b = absurd b
  farmed_calls middle tail farms e m [] [] (j ∷ js) ks are a b = absurd a
  farmed_calls middle tail farms e m [] (c ∷ es) js ks are a b = absurd are
  farmed_calls middle tail farms e m (d ∷ ds) [] js ks are a b = absurd are
  farmed_calls middle tail farms e m (d ∷ ds) (c ∷ es) [] ks are a b = absurd a
  farmed_calls middle tail farms e m (d ∷ ds) (c ∷ es) (j ∷ js) [] are a b = absurd b
  farmed_calls middle tail farms e m (d ∷ ds) (c ∷ es) (j ∷ js) (k ∷ ks) are a b =
      let new : number_of all.modules d.at.name ≡ Some j = number_stays middle all tail d.at.name j m a.0 in
      let old : number_of all.modules c.at.name ≡ Some k = number_stays checked all (map (λ x. defined x) farms ++ tail) c.at.name k e b.0 in
      (by new old are.0, farmed_calls middle tail farms e m ds es js ks are.1 a.1 b.1)
    where
      by : number_of all.modules d.at.name ≡ Some j → number_of all.modules c.at.name ≡ Some k → (d.at.name ≡ c.at.name) ⊎ HasFarm farms d.at.name c.at.name → (j ≡ k) ⊎ IsFarmOf all.modules.callables j k
      by new old (inl same) = inl (one_number (number_of all.modules c.at.name) j k (ap (number_of all.modules) (sym same) ∙ new) old)
      by new old (inr farm) =
          let f = farm_found checked all farms tail d.at.name c.at.name k even e old farm in
          inr (subst (λ n. IsFarmOf all.modules.callables n k) (one_number (number_of all.modules d.at.name) f.farm j f.number new) f.is)

  pub farmed : (farms : List ModuleTree) (ds : List Call) (its_pipe : ModuleTree) (its_back : List EntryTree) → checked_entries checked (map (λ m. defined m) farms ++ defined its_pipe ∷ its_back) ≡ Ok all
      → IsWritten kinds.Pipe ds its_pipe → AreFarmedCalls farms ds cs
      → (j : ℕ) × (number_of all.modules its_pipe.at.name ≡ Some j) × IsFarmed last.modules.callables (length checked.modules.callables) all.modules.callables j
  farmed farms ds its_pipe its_back e its are =
      let parts = parted checked all (map (λ m. defined m) farms) (defined its_pipe ∷ its_back) e in
      let f = first_of_them parts.middle all its_pipe its_back (even_after checked parts.middle farms even parts.before) parts.after in
      let made = first_pipe parts.middle all its_pipe its_back f ds its in (
        length parts.middle.modules.callables,
        f.number,
        record {
          there = f.there;
          was = first.form ∙ was_made.form_is;
          form = f.form ∙ made.form_is;
          calls = subst (λ js. AreFarmed all.modules.callables js (module_at last.modules.callables (length checked.modules.callables)).calls) (sym f.calls)
              (subst (AreFarmed all.modules.callables f.skeleton.calls) (sym first.calls)
              (farmed_calls parts.middle (defined its_pipe ∷ its_back) farms e parts.after ds cs f.skeleton.calls first.skeleton.calls are made.named was_made.named));
        },
      )
