-- The linker's role of a node has the node's meaning, and its number of firings is the node's number.
use Rattle.std.proofs.Common.{◌≡◌, ℕ, zero, suc, ◌+◌, ◌-◌, ◌*◌, ◌^◌, ◌<◌, ◌≤◌, Option, if◌then◌else◌, List, [], ◌∷◌, length, take, slice_index, refl, sym, ap, ap₂, ◌∙◌, arith}
use Rattle.std.specs.Prelude.{sum_by}
use Rattle.std.specs.List.{AllByRecursion}
use Rattle.std.proofs.Math.Nat.{pow-succ'}
use Rattle.std.proofs.lemmas.Bool.{ne_eqb}
use Rattle.std.proofs.lemmas.Nat.{pow_pos}
use Rattle.std.proofs.lemmas.List.Sums.{sum_by-cons}
use Rattle.p3l_base.specs.declared.cut.Cut.{Cut}
use Rattle.p3l_base.specs.Cut.{element_count}
use Rattle.p3l_skel.specs.declared.tree.Form.{Form}
use Rattle.p3l_skel.specs.declared.tree.Form.TheVariants.{Seq, Comp, Pipe, Farm, Map, Reduce, Loop}
use Rattle.p3l_skel.specs.declared.tree.Tree.{Tree}
use Rattle.p3l_skel.specs.Counts.{outside_parts, IsLawfulCount}
use Rattle.p3l_skel.specs.Lawful.{IsLawfulTree, IsLawfulForm}
use Rattle.p3l_skel.specs.Numbers.{firings_by, firings_row, joined_firings, inner_sum}
use Rattle.p3l_skel.specs.Tree.{node_at, part_at, GivesOuts}
use Rattle.p3l_skel.proofs.Below.{firings_by-step}
use Rattle.p3l_skel.proofs.Powers.{small_exponent}
use Rattle.p3l_firing.specs.Nodes.{turns_of, most_turns}
use Rattle.p3l_firing.specs.Segments.{level_of}
use Rattle.p3l_firing.proofs.LawfulForms.{loop_parts}
use Rattle.p3l_template.specs.Shape.{Role}
use Rattle.p3l_template.specs.Units.{Units}
use Rattle.p3l_reduce.specs.Reduce.{reduce_shape}
use Rattle.p3l_reduce.specs.laws.ReduceTyping.{level_exact}
use Rattle.p3l_loop.specs.Loop.{loop_firings}
use Rattle.p3l_link.specs.Counts.{HasOwnCount, IsCounted}
use Rattle.p3l_link.specs.Means.{Means}
use Rattle.p3l_link.specs.Part.{role_of}
use Rattle.p3l_link.specs.Shape.{kind_at, kind_row, shape_row}
use Rattle.p3l_link.proofs.NodeMeaning.{form_at, run_means, farm_means}
use Rattle.p3l_link.proofs.PipeMeaning.{pipe_means, pipe_fires}
use Rattle.p3l_link.proofs.MapMeaning.{map_means, count_is}
use Rattle.p3l_link.proofs.ReduceMeaning.{reduce_means}
use Rattle.p3l_link.proofs.LoopMeaning.{loop_means}

all_at : (P : ℕ → Type 0) (ps : List ℕ) (j : ℕ) → AllByRecursion P ps → j < length ps → P (slice_index ps j)
all_at P [] j all below = absurd (omega arith)
all_at P (p ∷ ps) zero all below = all.0
all_at P (p ∷ ps) (suc j) all below = all_at P ps j all.1 (omega arith)

-- of a form with parts outside units other than a pipe, its first part
first_at : (P : ℕ → Type 0) (ps : List ℕ) → 0 < length ps → AllByRecursion P (take 1 ps) → P (slice_index ps 0)
first_at P [] some all = absurd (omega arith)
first_at P (p ∷ ps) some all = all.0

first_sum : (below : ℕ → ℕ) (ps : List ℕ) → 0 < length ps → sum_by below (take 1 ps) ≡ below (slice_index ps 0)
first_sum below [] some = absurd (omega arith)
first_sum below (p ∷ ps) some = sum_by-cons below p [] ∙ omega arith

-- a farm, a map and a loop have a part
farm_long : (tree : Tree) (w : Option ℕ) (ins outs : ℕ) (ps : List ℕ) → IsLawfulForm tree (Farm w) ins outs ps → 0 < length ps
farm_long tree w ins outs [] h = absurd h
farm_long tree w ins outs (p ∷ ps) h = omega arith

map_long : (tree : Tree) (w : Option ℕ) (cut : Cut) (ins outs : ℕ) (ps : List ℕ) →
    IsLawfulForm tree (Map w cut) ins outs ps → 0 < length ps
map_long tree w cut ins outs [] h = absurd h
map_long tree w cut ins outs (p ∷ ps) h = omega arith

loop_long : (tree : Tree) (most tokens ins outs : ℕ) (ps : List ℕ) → IsLawfulForm tree (Loop most tokens) ins outs ps →
    0 < length ps
loop_long tree most tokens ins outs [] h = absurd h
loop_long tree most tokens ins outs (p ∷ ps) h = omega arith

-- the firings of a reduce by its level
level_fires : (units : Units) (node len : ℕ) (roles : ℕ → Role) (level : ℕ) →
    (reduce_shape node len level).firings units roles ≡ joined_firings (2 ^ level)
unfolding reduce_shape
level_fires units node len roles zero = refl
level_fires units node len roles (suc d) =
    let some : 1 ≤ 2 ^ d = pow_pos d in
    let power = pow-succ' 2 d in
    several (2 ^ suc d) (omega arith)
  where
    several : (m : ℕ) → 2 ≤ m → 3 * m ≡ joined_firings m
    several m h = sym (ap (λ c. if c then 1 else 3 * m) (ne_eqb m 1 (λ e. omega (arith, e))))

reduce_fires : (units : Units) (node len elem : ℕ) (w : Option ℕ) (roles : ℕ → Role) (n : ℕ) → IsLawfulCount (Reduce w len elem) n →
    (reduce_shape node len (level_of n)).firings units roles ≡ joined_firings n
reduce_fires units node len elem w roles n count =
    let e = count.1.0.0 in
    let power : n ≡ 2 ^ e = count.1.0.1 in
    let most = count.1.2 in
    let small : e ≤ 9 = small_exponent e (omega (arith, power, most)) in
    level_fires units node len roles (level_of n)
    ∙ ap joined_firings (ap (λ k. 2 ^ k) (ap level_of power ∙ level_exact 9 e small) ∙ sym power)

turns_at : (units : Units) (k : ℕ) {most tokens : ℕ} → (node_at units.tree k).form ≡ Loop most tokens → turns_of units.tree k ≡ most
unfolding turns_of
turns_at units k is = ap most_turns is

loop_row : (t f : ℕ) → 1 ≤ t → loop_firings t f ≡ t * f + 2 * t + 1
loop_row zero f h = absurd (omega arith)
loop_row (suc t) f h = let e : suc t - 1 ≡ t = omega arith in ap (λ n. 1 + (n * (f + 2) + (f + 2))) e ∙ omega arith

module _ (units : Units) (lawful : IsLawfulTree units.tree) (count : ℕ → ℕ) (d k : ℕ) (inside : k < length units.tree.nodes) where
  abbrev parts : List ℕ
  parts = (node_at units.tree k).parts

  abbrev roles : ℕ → Role
  roles v = role_of units count d (part_at units.tree k v)

  -- a part's role means what the part means, and fires as often
  abbrev Meant : ℕ → Type 0
  Meant p = Means units p (role_of units count d p).meaning

  abbrev below : ℕ → ℕ
  below = firings_by joined_firings units.tree count d

  abbrev Fires : ℕ → Type 0
  Fires p = (role_of units count d p).firings ≡ below p

  -- each row of the table means what its form does
  row_means : GivesOuts units.tree units.leaf → (f : Form) → (node_at units.tree k).form ≡ f → HasOwnCount f (count k) →
      AllByRecursion Meant (outside_parts f parts) →
      Means units k ((shape_row f k (length parts) (count k)).meaning units roles)
  unfolding kind_row
  row_means gives Seq is own all = run_means units lawful k inside
  row_means gives Comp is own all = run_means units lawful k inside
  row_means gives Pipe is own all =
      pipe_means units lawful gives roles k inside is (λ j inner. all_at Meant parts j all inner)
  row_means gives (Farm w) is own all =
      farm_means units lawful k inside (roles 0).meaning is
      (first_at Meant parts
      (farm_long units.tree w _ _ parts (form_at units lawful k inside (Farm w) is)) all)
  row_means gives (Map w cut) is own all =
      map_means units lawful k inside is (count k) (roles 0).meaning
      (first_at Meant parts
      (map_long units.tree w cut _ _ parts (form_at units lawful k inside (Map w cut) is)) all)
  row_means gives (Reduce w len elem) is own all = reduce_means units lawful k inside is roles (count k) own
  row_means gives (Loop most tokens) is own all =
      loop_means units lawful gives k inside (roles 0).meaning is
      (first_at Meant parts
      (loop_long units.tree most tokens _ _ parts (form_at units lawful k inside (Loop most tokens) is)) all)

  part_fires : 0 < length parts → AllByRecursion Fires (take 1 parts) → (roles 0).firings ≡ sum_by below (take 1 parts)
  part_fires some all = first_at Fires parts some all ∙ sym (first_sum below parts some)

  -- and fires as often as its form says
  row_fires : (f : Form) → (node_at units.tree k).form ≡ f → HasOwnCount f (count k) →
      AllByRecursion Fires (outside_parts f parts) →
      (shape_row f k (length parts) (count k)).firings units roles
      ≡ firings_row joined_firings f (count k) (sum_by below (outside_parts f parts))
  unfolding kind_row
  row_fires Seq is own all = refl
  row_fires Comp is own all = refl
  row_fires Pipe is own all =
      pipe_fires roles below parts (form_at units lawful k inside Pipe is).0 (λ j inner. all_at Fires parts j all inner)
  row_fires (Farm w) is own all =
      ap (λ n. 2 + n) (part_fires (farm_long units.tree w _ _ parts (form_at units lawful k inside (Farm w) is)) all)
  row_fires (Map w cut) is own all =
      ap₂ (λ m n. 2 + m * (n + 2)) (count_is units lawful k inside is)
      (part_fires (map_long units.tree w cut _ _ parts (form_at units lawful k inside (Map w cut) is)) all)
      ∙ map_row (element_count cut) (sum_by below (take 1 parts))
    where
      map_row : (m n : ℕ) → 2 + m * (n + 2) ≡ 2 + 2 * m + m * n
      map_row m n = omega arith
  row_fires (Reduce w len elem) is own all = reduce_fires units k len elem w roles (count k) own
  row_fires (Loop most tokens) is own all =
      ap₂ loop_firings (turns_at units k is)
      (part_fires (loop_long units.tree most tokens _ _ parts (form_at units lawful k inside (Loop most tokens) is)) all)
      ∙ loop_row most (sum_by below (take 1 parts)) (loop_parts units.tree lawful k inside is).limits.some_turns

mapped_all : (P Q : ℕ → Type 0) (ps : List ℕ) → ((p : ℕ) → P p → Q p) → AllByRecursion P ps → AllByRecursion Q ps
mapped_all P Q [] f all = tt
mapped_all P Q (p ∷ ps) f all = (f p all.0, mapped_all P Q ps f all.1)

module _ (units : Units) (lawful : IsLawfulTree units.tree) (count : ℕ → ℕ) where
  -- a node's role has the meaning of the node
  pub role_means : GivesOuts units.tree units.leaf → (d k : ℕ) → IsCounted units.tree count d k →
      Means units k (role_of units count d k).meaning
  unfolding role_of IsCounted kind_at
  role_means gives zero k counted = absurd counted
  role_means gives (suc d) k counted =
      row_means units lawful count d k counted.0 gives (node_at units.tree k).form refl counted.1
      (mapped_all (IsCounted units.tree count d) (λ p. Means units p (role_of units count d p).meaning) _
      (role_means gives d) counted.2)

  -- the role's number of firings is the node's
  pub role_fires : (d k : ℕ) → IsCounted units.tree count d k →
      (role_of units count d k).firings ≡ firings_by joined_firings units.tree count d k
  unfolding role_of IsCounted kind_at
  role_fires zero k counted = absurd counted
  role_fires (suc d) k counted =
      let e : suc d - 1 ≡ d = omega arith in
      row_fires units lawful count d k counted.0 (node_at units.tree k).form refl counted.1
      (mapped_all (IsCounted units.tree count d)
      (λ p. (role_of units count d p).firings ≡ firings_by joined_firings units.tree count d p) _
      (role_fires d) counted.2)
      ∙ sym (firings_by-step joined_firings units.tree count (suc d) k (omega arith)
      ∙ ap (λ n. firings_row joined_firings (node_at units.tree k).form (count k)
      (inner_sum units.tree (firings_by joined_firings units.tree count n) k)) e)
