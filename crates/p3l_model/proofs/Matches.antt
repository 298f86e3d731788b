-- Nodes whose numbers are those of a tree with its costs put in, constructor by constructor.
use Rattle.std.proofs.Common.{◌≡◌, ℕ, zero, suc, ◌+◌, ◌-◌, ◌*◌, ◌==◌, ◌<◌, ◌≤◌, ◌↔◌, max, true, false, List, [], ◌∷◌, ◌++◌, take, drop, length, refl, sym, ap, ap₂, ◌∙◌, subst, arith, inl, inr}
use Rattle.std.specs.List.{Contains}
use Rattle.std.proofs.Math.Nat.{mul-le-mul_right}
use Rattle.std.proofs.lemmas.Bool.{cases_lt, cases_eq}
use Rattle.std.proofs.lemmas.Bool.Decides.{nat_tests}
use Rattle.std.proofs.lemmas.List.{length-append}
use Rattle.p3l_skel.specs.declared.tree.Tree.{Tree}
use Rattle.p3l_skel.specs.Tree.{node_at}
use Rattle.p3l_skel.specs.Counts.{TakesLawful, IsLawfulCount}
use Rattle.p3l_skel.specs.Numbers.{joined_procs}
use Rattle.p3l_model.specs.declared.cost.Span.{Span}
use Rattle.p3l_model.specs.declared.cost.Sharing.{Sharing}
use Rattle.p3l_model.specs.declared.cost.Sharing.TheVariants.{Items, Elements}
use Rattle.p3l_model.specs.declared.cost.FoldCost.{FoldCost}
use Rattle.p3l_model.specs.NodeCost.{never, timed, shared, segments_service}
use Rattle.p3l_model.specs.Service.{reduce_service, fold_service}
use Rattle.p3l_model.specs.Costed.{Costed, Empty, Leaf, Both, Workers, Segments, Loop, IsIn, AreSegments, size, run_procs, run_service, IsLawfulRun, greatest_up_to, slowest, IsSharing}
use Rattle.p3l_model.proofs.Runs.{Agrees, agrees-front, agrees-back, agrees-head, agrees-tail, takes-parts, takes-whole}

-- the nodes ks with counts, of which the processes and the service time are made as those of a
pub record Matches (tree : Tree) (ks : List ℕ) (a : Costed) (procs service : (ℕ → ℕ) → ℕ) : Type 0 where
  pub size_is : size a ≡ length ks
  pub into : (ns : List ℕ) → TakesLawful tree ks ns [] → IsLawfulRun a ns
  pub out : (ns : List ℕ) → IsLawfulRun a ns → TakesLawful tree ks ns []
  pub procs_is : (count : ℕ → ℕ) (ns : List ℕ) → Agrees count ks ns → TakesLawful tree ks ns [] → procs count ≡ run_procs a ns
  pub service_is : (count : ℕ → ℕ) (ns : List ℕ) → Agrees count ks ns → TakesLawful tree ks ns [] → slowest a < never → service count ≡ run_service a ns

pub matches-along : (tree : Tree) (ks : List ℕ) (a : Costed) (procs service other_procs other_service : (ℕ → ℕ) → ℕ) → ((c : ℕ → ℕ) → other_procs c ≡ procs c) → ((c : ℕ → ℕ) → other_service c ≡ service c) → Matches tree ks a procs service → Matches tree ks a other_procs other_service
matches-along tree ks a procs service other_procs other_service p s m = record {
  size_is = m.size_is;
  into = m.into;
  out = m.out;
  procs_is = λ count ns agrees takes. p count ∙ m.procs_is count ns agrees takes;
  service_is = λ count ns agrees takes slow. s count ∙ m.service_is count ns agrees takes slow;
}

pub matches-empty : (tree : Tree) → Matches tree [] Empty (λ c. 0) (λ c. 0)
unfolding size run_procs run_service IsLawfulRun
matches-empty tree = record {
  size_is = refl;
  into = λ ns h. h;
  out = λ ns h. h;
  procs_is = λ count ns agrees takes. refl;
  service_is = λ count ns agrees takes slow. refl;
}

pub matches-leaf : (tree : Tree) (time : ℕ) → Matches tree [] (Leaf (timed time)) (λ c. 1) (λ c. time)
unfolding size run_procs run_service IsLawfulRun slowest
matches-leaf tree time = record {
  size_is = refl;
  into = λ ns h. h;
  out = λ ns h. h;
  procs_is = λ count ns agrees takes. refl;
  service_is = λ count ns agrees takes slow. omega arith;
}

module _ (tree : Tree) (ks ms : List ℕ) (a b : Costed) (p s q t : (ℕ → ℕ) → ℕ) (apart : (x : ℕ) → Contains ks x → Contains ms x → ⊥) (m : Matches tree ks a p s) (n : Matches tree ms b q t) where
  both-into : (ns : List ℕ) → TakesLawful tree (ks ++ ms) ns [] → IsLawfulRun (Both a b) ns
  unfolding IsLawfulRun
  both-into ns h =
      let parts = takes-parts tree ks ms ns h in
      (subst (λ z. IsLawfulRun a (take z ns)) (sym m.size_is) (m.into (take (length ks) ns) parts.0), subst (λ z. IsLawfulRun b (drop z ns)) (sym m.size_is) (n.into (drop (length ks) ns) parts.1))

  both-out : (ns : List ℕ) → IsLawfulRun (Both a b) ns → TakesLawful tree (ks ++ ms) ns []
  unfolding IsLawfulRun
  both-out ns h = takes-whole tree ks ms ns (size a) (m.out (take (size a) ns) h.0) (n.out (drop (size a) ns) h.1)

  both-procs : (count : ℕ → ℕ) (ns : List ℕ) → Agrees count (ks ++ ms) ns → TakesLawful tree (ks ++ ms) ns [] → p count + q count ≡ run_procs (Both a b) ns
  unfolding run_procs
  both-procs count ns agrees takes =
      let parts = takes-parts tree ks ms ns takes in
      let one = m.procs_is count (take (length ks) ns) (agrees-front count ks ms ns agrees) parts.0 in
      let two = n.procs_is count (drop (length ks) ns) (agrees-back count ks ms ns apart agrees) parts.1 in
      rw m.size_is (ap₂ (λ x y. x + y) one two)

  both-service : (count : ℕ → ℕ) (ns : List ℕ) → Agrees count (ks ++ ms) ns → TakesLawful tree (ks ++ ms) ns [] → slowest (Both a b) < never → max (s count) (t count) ≡ run_service (Both a b) ns
  unfolding run_service slowest
  both-service count ns agrees takes slow =
      let parts = takes-parts tree ks ms ns takes in
      let one = m.service_is count (take (length ks) ns) (agrees-front count ks ms ns agrees) parts.0 (omega arith) in
      let two = n.service_is count (drop (length ks) ns) (agrees-back count ks ms ns apart agrees) parts.1 (omega arith) in
      rw m.size_is (ap₂ max one two)

  pub matches-both : Matches tree (ks ++ ms) (Both a b) (λ c. p c + q c) (λ c. max (s c) (t c))
  unfolding size
  matches-both = record {
    size_is = omega (arith, m.size_is, n.size_is, length-append ks ms);
    into = both-into;
    out = both-out;
    procs_is = both-procs;
    service_is = both-service;
  }

module _ (tree : Tree) (k : ℕ) (ks : List ℕ) (r : Span) (h : Sharing) (ends : ℕ) (a : Costed) (p s : (ℕ → ℕ) → ℕ) (apart : Contains ks k → ⊥) (some : IsSharing h) (range : (n : ℕ) → IsLawfulCount (node_at tree k).form n ↔ IsIn r n) (m : Matches tree ks a p s) where
  workers-into : (ns : List ℕ) → TakesLawful tree (k ∷ ks) ns [] → IsLawfulRun (Workers r h (timed ends) a) ns
  unfolding IsLawfulRun
  workers-into [] h = absurd h
  workers-into (n ∷ ns) h = ((range n).0 h.0, m.into ns h.1)

  workers-out : (ns : List ℕ) → IsLawfulRun (Workers r h (timed ends) a) ns → TakesLawful tree (k ∷ ks) ns []
  unfolding IsLawfulRun
  workers-out [] l = absurd l
  workers-out (n ∷ ns) l = ((range n).1 l.0, m.out ns l.1)

  workers-procs : (count : ℕ → ℕ) (ns : List ℕ) → Agrees count (k ∷ ks) ns → TakesLawful tree (k ∷ ks) ns [] → 2 + count k * p count ≡ run_procs (Workers r h (timed ends) a) ns
  unfolding run_procs
  workers-procs count [] agrees takes = absurd takes
  workers-procs count (n ∷ ns) agrees takes =
      let one = agrees-head count k ks n ns agrees in
      let part = m.procs_is count ns (agrees-tail count k ks n ns apart agrees) takes.1 in
      ap₂ (λ x y. 2 + x * y) one part

  slowest-ends : (g : Sharing) → slowest (Workers r g (timed ends) a) < never → (ends < never) × (timed ends ≡ ends)
  unfolding slowest
  slowest-ends Items slow = (omega arith, omega arith)
  slowest-ends (Elements e) slow = (omega arith, omega arith)

  slowest-part : (g : Sharing) → IsSharing g → slowest (Workers r g (timed ends) a) < never → slowest a < never
  unfolding slowest
  slowest-part Items some slow = omega arith
  slowest-part (Elements e) some slow =
      let more : 1 * slowest a ≤ e * slowest a = mul-le-mul_right (slowest a) some in omega arith

  workers-service : (count : ℕ → ℕ) (ns : List ℕ) → Agrees count (k ∷ ks) ns → TakesLawful tree (k ∷ ks) ns [] → slowest (Workers r h (timed ends) a) < never → max ends (shared h (count k) (s count)) ≡ run_service (Workers r h (timed ends) a) ns
  unfolding run_service
  workers-service count [] agrees takes slow = absurd takes
  workers-service count (n ∷ ns) agrees takes slow =
      let one = agrees-head count k ks n ns agrees in
      let part = m.service_is count ns (agrees-tail count k ks n ns apart agrees) takes.1 (slowest-part h some slow) in
      let end = slowest-ends h slow in
      ap₂ (λ x y. max ends (shared h x y)) one part ∙ ap (λ e. max e (shared h n (run_service a ns))) (sym end.1)

  pub matches-workers : Matches tree (k ∷ ks) (Workers r h (timed ends) a) (λ c. 2 + c k * p c) (λ c. max ends (shared h (c k) (s c)))
  unfolding size
  matches-workers = record {
    size_is = omega (arith, m.size_is);
    into = workers-into;
    out = workers-out;
    procs_is = workers-procs;
    service_is = workers-service;
  }

pub greatest-at : (f : ℕ → ℕ) (high m : ℕ) → 1 ≤ m → m ≤ high → f m ≤ greatest_up_to f high
unfolding greatest_up_to
greatest-at f zero m some within = absurd (omega arith)
greatest-at f (suc n) m some within =
    elim (cases_lt m (suc n)) [
      | inl less ↦ let q = greatest-at f n m some (omega arith) in omega (arith, q)
      | inr last ↦ let e : m ≡ suc n = omega arith in rw e (omega arith)
    ]

-- a time that is counted so far adds up to the same, where the sum is counted
counted-steps : (steps x : ℕ) → steps * timed x < never → steps * timed x ≡ steps * x
counted-steps zero x small = omega arith
counted-steps (suc n) x small =
    elim (cases_lt x never) [
      | inl below ↦ let e : timed x ≡ x = omega arith in rw e refl
      | inr past ↦ let e : timed x ≡ never = omega arith in
          let big : suc n * never < never = rw e at small in absurd (omega arith)
    ]

counted-reduce : (transfer : ℕ → ℕ) (len elem operator m : ℕ) → reduce_service transfer len elem (timed operator) m < never → reduce_service transfer len elem (timed operator) m ≡ reduce_service transfer len elem operator m
counted-reduce transfer len elem operator m small =
    elim (cases_eq m 1) [
      | inl one ↦ let test : (m == 1) ≡ true = search (arith, nat_tests) in
          let fold : fold_service transfer len elem (timed operator) < never = rw test at small in
          let e : (len - 1) * timed operator ≡ (len - 1) * operator = counted-steps (len - 1) operator (omega arith) in
          rw test (ap (λ x. x + (transfer (len * elem) + transfer elem)) e)
      | inr more ↦ let test : (m == 1) ≡ false = search (arith, nat_tests) in
          let whole = rw test at small in
          let e : timed operator ≡ operator = omega arith in
          rw e refl
    ]

module _ (tree : Tree) (k : ℕ) (r : Span) (setup word len elem operator : ℕ) (range : (m : ℕ) → IsLawfulCount (node_at tree k).form m ↔ AreSegments r m) where
  fold : FoldCost
  fold = record { setup = setup; word = word; len = len; elem = elem; operator = timed operator }

  segments-into : (ns : List ℕ) → TakesLawful tree (k ∷ []) ns [] → IsLawfulRun (Segments r fold) ns
  unfolding IsLawfulRun
  segments-into [] h = absurd h
  segments-into (m ∷ ns) h = ((range m).0 h.0, h.1)

  segments-out : (ns : List ℕ) → IsLawfulRun (Segments r fold) ns → TakesLawful tree (k ∷ []) ns []
  unfolding IsLawfulRun
  segments-out [] l = absurd l
  segments-out (m ∷ ns) l = ((range m).1 l.0, l.1)

  segments-procs : (count : ℕ → ℕ) (ns : List ℕ) → Agrees count (k ∷ []) ns → TakesLawful tree (k ∷ []) ns [] → joined_procs (count k) ≡ run_procs (Segments r fold) ns
  unfolding run_procs
  segments-procs count [] agrees takes = absurd takes
  segments-procs count (m ∷ ns) agrees takes = ap joined_procs (agrees-head count k [] m ns agrees)

  segments-service : (count : ℕ → ℕ) (ns : List ℕ) → Agrees count (k ∷ []) ns → TakesLawful tree (k ∷ []) ns [] → slowest (Segments r fold) < never → reduce_service (λ w. setup + word * w) len elem operator (count k) ≡ run_service (Segments r fold) ns
  unfolding run_service slowest fold
  segments-service count [] agrees takes slow = absurd takes
  segments-service count (m ∷ ns) agrees takes slow =
      let lawful = (range m).0 takes.0 in
      let most = greatest-at (segments_service fold) r.high m lawful.1.0 lawful.1.2 in
      let e = counted-reduce (λ w. setup + word * w) len elem operator m (omega (arith, most)) in
      ap (reduce_service (λ w. setup + word * w) len elem operator) (agrees-head count k [] m ns agrees) ∙ sym e

  pub matches-segments : Matches tree (k ∷ []) (Segments r (record { setup = setup; word = word; len = len; elem = elem; operator = timed operator })) (λ c. joined_procs (c k)) (λ c. reduce_service (λ w. setup + word * w) len elem operator (c k))
  unfolding size fold
  matches-segments = record {
    size_is = refl;
    into = segments-into;
    out = segments-out;
    procs_is = segments-procs;
    service_is = segments-service;
  }

module _ (tree : Tree) (ks : List ℕ) (turns ends : ℕ) (a : Costed) (p s : (ℕ → ℕ) → ℕ) (some : 0 < turns) (m : Matches tree ks a p s) where
  loop-service : (count : ℕ → ℕ) (ns : List ℕ) → Agrees count ks ns → TakesLawful tree ks ns [] → slowest (Loop turns (timed ends) a) < never → max ends (turns * s count) ≡ run_service (Loop turns (timed ends) a) ns
  unfolding run_service slowest
  loop-service count ns agrees takes slow =
      let more : 1 * slowest a ≤ turns * slowest a = mul-le-mul_right (slowest a) some in
      let part = m.service_is count ns agrees takes (omega arith) in
      let end : timed ends ≡ ends = omega arith in
      ap (λ y. max ends (turns * y)) part ∙ ap (λ e. max e (turns * run_service a ns)) (sym end)

  pub matches-loop : Matches tree ks (Loop turns (timed ends) a) (λ c. 2 + p c) (λ c. max ends (turns * s c))
  unfolding size run_procs IsLawfulRun
  matches-loop = record {
    size_is = m.size_is;
    into = m.into;
    out = m.out;
    procs_is = λ count ns agrees takes. ap (λ x. 2 + x) (m.procs_is count ns agrees takes);
    service_is = loop-service;
  }
