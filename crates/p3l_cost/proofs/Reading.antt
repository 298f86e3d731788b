-- Numbers that are read from a document are costs of its tree.
use Rattle.std.proofs.Common.{◌≡◌, ℕ, zero, suc, ◌+◌, ◌<◌, ◌≤◌, ◌&&◌, Bool, true, false, List, [], ◌∷◌, get_or, length, Option, Some, None, Result, Ok, Err, refl, ap, ◌∙◌, subst, arith, pos, negsuc, codes, inl}
use Rattle.std.specs.Prelude.{IfOk, IfSome, unwrap_or, if◌then◌else◌, nat_le, slice_index}
use Rattle.std.specs.List.{All}
use Rattle.std.specs.Option.{option_map_or}
use Rattle.std.proofs.lemmas.Bool.{leb-true}
use Rattle.std.proofs.lemmas.List.Elements.{All-nil, All-cons}
use Rattle.toml.specs.Data.{Data, string, integer, float, boolean, datetime, array, table, Members, get_member}
use Rattle.p3l_skel.specs.declared.tree.ModuleInfo.{ModuleInfo}
use Rattle.p3l_skel.specs.declared.tree.Node.{Node}
use Rattle.p3l_skel.specs.declared.tree.Tree.{Tree}
use Rattle.p3l_skel.specs.Lawful.{IsLawfulTree}
use Rattle.p3l_skel.specs.Tree.{no_module}
use Rattle.p3l_cost.specs.declared.costs.Costs.{Costs}
use Rattle.p3l_cost.specs.declared.refusal.CostRefusal.{CostRefusal}
use Rattle.p3l_cost.specs.declared.refusal.CostRefusal.TheVariants.{NotToml, BadKey, BadValue, Missing, NoMemory}
use Rattle.p3l_cost.specs.declared.section.Section.{Section}
use Rattle.p3l_cost.specs.declared.section.Section.TheVariants.{Ticks, Turns}
use Rattle.p3l_cost.specs.Costs.{AreCostsOf, IsTurns, most_cost}
use Rattle.p3l_cost.specs.Standard.{full_turns, turns_of, turns_or}
use Rattle.p3l_cost.specs.File.{Gives, IsDocument, IsRead, Verdict, all_ticks, all_turns, costs_in, costs_with, entry_in, entry_of, given, is_used, keys_rule, least_of, number_in, speaks_of, ticks_of, ticks_or, turns_of_module, whole_in}
use Rattle.p3l_cost.proofs.Turns.{home_inside, limits_at, turns_lawful, turns_within, within-form}

-- numbers that were found are in range
whole_in-range : (low high : ℕ) (d : Data) → IfSome (whole_in low high d) (λ n. (low ≤ n) × (n ≤ high))
whole_in-range low high (string s) = tt
whole_in-range low high (integer (pos n)) = by (nat_le low n) (nat_le n high) refl refl
  where
    by : (a b : Bool) → nat_le low n ≡ a → nat_le n high ≡ b → IfSome (if a && b then Some n else None) (λ m. (low ≤ m) × (m ≤ high))
    by true true p q = (leb-true low n p, leb-true n high q)
    by true false p q = tt
    by false b p q = tt
whole_in-range low high (integer (negsuc n)) = tt
whole_in-range low high (float x) = tt
whole_in-range low high (boolean b) = tt
whole_in-range low high (datetime t) = tt
whole_in-range low high (array items) = tt
whole_in-range low high (table _) = tt

at-range : (low high : ℕ) (o : Option Data) → IfSome (option_map_or (whole_in low high) o None) (λ n. (low ≤ n) × (n ≤ high))
at-range low high None = tt
at-range low high (Some d) = whole_in-range low high d

entry_in-range : (document : Members) (section : Section) (most : ℕ) (name : List ℕ) → IfSome (entry_in document section most name) (λ n. (least_of section ≤ n) × (n ≤ most))
entry_in-range document section most name = by (get_member _ document)
  where
    within : Data → Type 0
    within d = IfSome (entry_of section most name d) (λ n. (least_of section ≤ n) × (n ≤ most))

    of_data : (d : Data) → within d
    of_data (string s) = tt
    of_data (integer z) = tt
    of_data (float x) = tt
    of_data (boolean b) = tt
    of_data (datetime t) = tt
    of_data (array items) = tt
    of_data (table members) = at-range (least_of section) most (get_member name members)

    by : (o : Option Data) → IfSome (option_map_or (entry_of section most name) o None) (λ n. (least_of section ≤ n) × (n ≤ most))
    by None = tt
    by (Some d) = of_data d

number_few : (document : Members) (key : List ℕ) → unwrap_or (number_in document key) 0 ≤ most_cost
number_few document key = by (number_in document key) (at-range 0 most_cost (get_member key document))
  where
    by : (o : Option ℕ) → IfSome o (λ n. (0 ≤ n) × (n ≤ most_cost)) → unwrap_or o 0 ≤ most_cost
    by None h = omega arith
    by (Some n) h = h.1

ticks_or-few : (entry default : Option ℕ) (used : Bool) (name : List ℕ) (n : ℕ) → IfSome entry (λ m. (0 ≤ m) × (m ≤ most_cost)) → IfSome default (λ m. (0 ≤ m) × (m ≤ most_cost)) →
    ticks_or entry default used name ≡ Ok n → n ≤ most_cost
ticks_or-few (Some m) default used name n e d is = let same : m ≡ n = cc in rw (← same) e.1
ticks_or-few None (Some m) used name n e d is = let same : m ≡ n = cc in rw (← same) d.1
ticks_or-few None None true name n e d is = absurd cc
ticks_or-few None None false name n e d is = let same : 0 ≡ n = cc in omega arith

module _ (tree : Tree) (document : Members) where
  ticks_of-few : (home : ℕ) (m : ModuleInfo) (n : ℕ) → ticks_of tree document home m ≡ Ok n → n ≤ most_cost
  ticks_of-few home m n = by (speaks_of Ticks m.kind)
    where
      entry : Option ℕ
      entry = entry_in document Ticks most_cost m.name

      by : (speaks : Bool) → (if speaks then ticks_or entry (number_in document (codes "default")) (is_used tree.nodes home) m.name else Ok 0) ≡ Ok n → n ≤ most_cost
      by true is = ticks_or-few entry (number_in document (codes "default")) (is_used tree.nodes home) m.name n (entry_in-range document Ticks most_cost m.name) (at-range 0 most_cost (get_member (codes "default") document)) is
      by false is = let same : 0 ≡ n = cc in omega arith

  all_ticks-few : (home : ℕ) (ms : List ModuleInfo) (ns : List ℕ) → all_ticks tree document home ms ≡ Ok ns → (length ns ≡ length ms) × All (λ n. n ≤ most_cost) ns
  all_ticks-few home [] ns is = let same : [] ≡ ns = cc in rw (← same) (refl, All-nil (λ n. n ≤ most_cost))
  all_ticks-few home (m ∷ ms) ns is = by (all_ticks-few (home + 1) ms) (ticks_of tree document home m) refl (all_ticks tree document (home + 1) ms) refl is
    where
      by : ((rest : List ℕ) → all_ticks tree document (home + 1) ms ≡ Ok rest → (length rest ≡ length ms) × All (λ n. n ≤ most_cost) rest) →
          (r : Result ℕ CostRefusal) → ticks_of tree document home m ≡ r → (rs : Result (List ℕ) CostRefusal) → all_ticks tree document (home + 1) ms ≡ rs →
          given r (λ n. given rs (λ rest. Ok (n ∷ rest))) ≡ Ok ns → (length ns ≡ length (m ∷ ms)) × All (λ n. n ≤ most_cost) ns
      by more (Err e) p rs q is = absurd cc
      by more (Ok n) p (Err e) q is = absurd cc
      by more (Ok n) p (Ok rest) q is =
          let same : n ∷ rest ≡ ns = cc in
          rw (← same) (omega (arith, (more rest q).0), All-cons (λ k. k ≤ most_cost) n rest (ticks_of-few home m n p) (more rest q).1)

  -- a property of the turns of a loop as they are, of 1 and of all numbers that an entry may have
  -- holds of the turns of a module
  turns_of-are : (P : ℕ → Type 0) (home : ℕ) (m : ModuleInfo) → P 1 → P (full_turns tree.nodes home) → ((n : ℕ) → 1 ≤ n → n ≤ turns_or most_cost tree.nodes home → P n) → P (turns_of_module tree document home m)
  turns_of-are P home m one full entry = by (speaks_of Turns m.kind)
    where
      found : Option ℕ
      found = entry_in document Turns (turns_or most_cost tree.nodes home) m.name

      of : (o : Option ℕ) → IfSome o (λ n. (1 ≤ n) × (n ≤ turns_or most_cost tree.nodes home)) → P (unwrap_or o (full_turns tree.nodes home))
      of None h = full
      of (Some n) h = entry n h.0 h.1

      by : (speaks : Bool) → P (if speaks then unwrap_or found (full_turns tree.nodes home) else 1)
      by true = of found (entry_in-range document Turns (turns_or most_cost tree.nodes home) m.name)
      by false = one

  all_turns-count : (home : ℕ) (ms : List ModuleInfo) → length (all_turns tree document home ms) ≡ length ms
  all_turns-count home [] = refl
  all_turns-count home (m ∷ ms) = omega (arith, all_turns-count (home + 1) ms)

  all_turns-at : (home : ℕ) (ms : List ModuleInfo) (i d : ℕ) (m : ModuleInfo) → i < length ms → get_or (all_turns tree document home ms) i d ≡ turns_of_module tree document (home + i) (get_or ms i m)
  all_turns-at home [] i d m inside = absurd (omega (arith, inside))
  all_turns-at home (x ∷ xs) zero d m inside = ap (λ h. turns_of_module tree document h x) (omega arith)
  all_turns-at home (x ∷ xs) (suc i) d m inside =
      all_turns-at (home + 1) xs i d m (omega (arith, inside)) ∙ ap (λ h. turns_of_module tree document h (get_or xs i m)) (omega arith)

  module _ (lawful : IsLawfulTree tree) where
    all_turns-lawful : (home : ℕ) (ms : List ModuleInfo) → All IsTurns (all_turns tree document home ms)
    all_turns-lawful home [] = All-nil IsTurns
    all_turns-lawful home (m ∷ ms) =
        All-cons IsTurns (turns_of_module tree document home m) (all_turns tree document (home + 1) ms)
        (turns_of-are IsTurns home m (omega arith, omega arith) (turns_lawful tree lawful 1 home (omega arith, omega arith))
        (λ n some few. let most = turns_lawful tree lawful most_cost home (omega arith, omega arith) in (some, omega (arith, few, most.1))))
        (all_turns-lawful (home + 1) ms)

    node-within : (k : ℕ) (d : Node) → k < length tree.nodes → (t : ℕ) → turns_of (get_or tree.nodes k d).form ≡ Some t →
        slice_index (all_turns tree document 0 tree.modules) (get_or tree.nodes k d).module ≤ t
    node-within k d inside t e =
        let home = (get_or tree.nodes k d).module in
        let m : ModuleInfo = get_or tree.modules home no_module in
        let at : slice_index (all_turns tree document 0 tree.modules) home ≡ turns_of_module tree document (0 + home) m = all_turns-at 0 tree.modules home 0 no_module (home_inside tree lawful k d inside) in
        let here : 0 + home ≡ home = omega arith in
        rw (at, here)
        (turns_of-are (λ n. n ≤ t) home m (limits_at tree lawful k d inside t e).0 (turns_within tree lawful 1 k d inside t e)
        (λ n some fits. omega (arith, fits, turns_within tree lawful most_cost k d inside t e)))

    lawful_costs : (ticks : List ℕ) → all_ticks tree document 0 tree.modules ≡ Ok ticks → AreCostsOf tree (costs_with document ticks (all_turns tree document 0 tree.modules))
    lawful_costs ticks is =
        let counted = all_ticks-few 0 tree.modules ticks is in
        record {
          setup = number_few document (codes "setup");
          word = number_few document (codes "word");
          ticks_each = counted.0;
          ticks = counted.1;
          turns_each = all_turns-count 0 tree.modules;
          turns = all_turns-lawful 0 tree.modules;
          within = λ k d inside. within-form (get_or tree.nodes k d).form _ (λ t e. node-within k d inside t e);
        }

-- the costs in a document are costs of its tree
pub says_lawful : (tree : Tree) (document : Members) (costs : Costs) → IsLawfulTree tree → costs_in tree document ≡ Ok costs → AreCostsOf tree costs
unfolding costs_in
says_lawful tree document costs lawful is = by (keys_rule tree document) (all_ticks tree document 0 tree.modules) refl is
  where
    by : (keys : Verdict) (found : Result (List ℕ) CostRefusal) → all_ticks tree document 0 tree.modules ≡ found →
        given keys (λ x. given found (λ ticks. Ok (costs_with document ticks (all_turns tree document 0 tree.modules)))) ≡ Ok costs → AreCostsOf tree costs
    by (Err e) found q said = absurd cc
    by (Ok x) (Err e) q said = absurd cc
    by (Ok x) (Ok ticks) q said =
        let same : costs_with document ticks (all_turns tree document 0 tree.modules) ≡ costs = cc in
        subst (AreCostsOf tree) same (lawful_costs tree document lawful ticks q)

-- an answer that a text's document gives is read from the text
pub read_is : (tree : Tree) (text : List ℕ) (document : Members) (answer : Result Costs CostRefusal) → IsDocument text document → Gives answer (costs_in tree document) → IsRead tree text answer
read_is tree text document (Ok costs) is h = record { document = document; is = is; says = h }
read_is tree text document (Err NotToml) is h = absurd h
read_is tree text document (Err (BadKey key)) is h = record { document = document; is = is; says = h }
read_is tree text document (Err (BadValue key)) is h = record { document = document; is = is; says = h }
read_is tree text document (Err (Missing name)) is h = record { document = document; is = is; says = h }
read_is tree text document (Err NoMemory) is h = inl h

-- the answer says which costs are lawful
pub read_lawful : (tree : Tree) (document : Members) (answer : Result Costs CostRefusal) → IsLawfulTree tree → Gives answer (costs_in tree document) → IfOk answer (AreCostsOf tree)
read_lawful tree document (Ok costs) lawful h = says_lawful tree document costs lawful h
read_lawful tree document (Err e) lawful h = tt
