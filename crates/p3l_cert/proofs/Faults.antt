-- The tests of a certificate, one by one.
use Rattle.std.proofs.Common.{◌≡◌, ℕ, zero, suc, ◌+◌, ◌-◌, ◌≤◌, ◌<◌, Bool, true, false, leb, eqb, cond, List, [], ◌∷◌, Option, Some, None, Result, Ok, Err, drop, get_or, length, refl, sym, ap, ◌∙◌, subst, arith, inl, inr, add-one}
use Rattle.std.specs.Prelude.{IfErr, OnOk}
use Rattle.std.specs.List.{All}
use Rattle.std.proofs.Math.Seq.{drop-cons}
use Rattle.std.proofs.lemmas.List.{drop_all}
use Rattle.std.proofs.lemmas.Bool.{eqb-true, eq-eqb, ne_eqb, leb-true, le-leb, cases_eq}
use Rattle.p3l_skel.specs.declared.tree.Tree.{Tree}
use Rattle.p3l_skel.specs.Counts.{HasLawfulCounts}
use Rattle.p3l_skel.specs.Numbers.{procs}
use Rattle.p3l_cost.specs.declared.costs.Costs.{Costs}
use Rattle.p3l_model.specs.Service.{service}
use Rattle.p3l_cert.specs.declared.cert.Cert.{Cert}
use Rattle.p3l_cert.specs.declared.cert.CertRefusal.{CertRefusal}
use Rattle.p3l_cert.specs.declared.cert.CertRefusal.TheVariants.{RowWrong, RowMissing, ClaimWrong, BadText, NoMemory}
use Rattle.p3l_cert.specs.declared.cert.Claim.TheVariants as claims
use Rattle.p3l_cert.specs.declared.cert.Key.{Key}
use Rattle.p3l_cert.specs.declared.cert.Row.{Row}
use Rattle.p3l_cert.specs.Checker.{CertHolds, or_else, claims_fault, found_fault, row_fault, rows_fault, there_fault, least_fault, top_fault, cert_fault, Answers}
use Rattle.p3l_cert.specs.Rule.{key, key_of, kept, rule, Follows}

-- ---- first faults

pub stop : (e : CertRefusal) (f g : Option CertRefusal) → Answers {A = Unit {0}} (Err e) f → Answers {A = Unit {0}} (Err e) (or_else f g)
stop (RowWrong a b c) f g h = ap (λ o. or_else o g) h
stop (RowMissing a b c d) f g h = ap (λ o. or_else o g) h
stop (ClaimWrong a) f g h = ap (λ o. or_else o g) h
stop (BadText a) f g h = ap (λ o. or_else o g) h
stop NoMemory f g h = h

or_none : (f g : Option CertRefusal) → or_else f g ≡ None → (f ≡ None) × (g ≡ None)
or_none None g e = (refl, e)
or_none (Some r) g e = absurd cc

none_or : (f g : Option CertRefusal) → f ≡ None → g ≡ None → or_else f g ≡ None
none_or f g a b = ap (λ o. or_else o g) a ∙ b

if_none : (b : Bool) (o : Option CertRefusal) (r : CertRefusal) → cond b o (Some r) ≡ None → (b ≡ true) × (o ≡ None)
if_none true o r e = (refl, e)
if_none false o r e = absurd cc

pub only_memory : {A : Type 0} (r : Result A CertRefusal) → Answers r None → IfErr r (λ e. e ≡ NoMemory)
only_memory (Ok v) h = tt
only_memory (Err (RowWrong a b c)) h = absurd cc
only_memory (Err (RowMissing a b c d)) h = absurd cc
only_memory (Err (ClaimWrong a)) h = absurd cc
only_memory (Err (BadText a)) h = absurd cc
only_memory (Err NoMemory) h = refl

-- ---- rows

module _ (tree : Tree) (costs : Costs) (rows : List Row) where
  rows_split : (some : List Row) (i : ℕ) (d : Row) → i < length some → rows_fault tree costs rows i (drop i some) ≡ or_else (row_fault tree costs rows i (get_or some i d)) (rows_fault tree costs rows (i + 1) (drop (i + 1) some))
  unfolding rows_fault
  rows_split some i d inside =
      let e : drop i some ≡ get_or some i d ∷ drop (i + 1) some = rw (add-one, drop-cons some i d) in
      let at : suc i ≡ i + 1 = omega arith in
      ap (rows_fault tree costs rows i) e ∙ ap (λ n. or_else (row_fault tree costs rows i (get_or some i d)) (rows_fault tree costs rows n (drop (i + 1) some))) at

  pub rows_stop : (e : CertRefusal) (i : ℕ) (d : Row) → i < length rows → Answers {A = Unit {0}} (Err e) (row_fault tree costs rows i (get_or rows i d)) → rows_fault tree costs rows i (drop i rows) ≡ rows_fault tree costs rows 0 rows → Answers {A = Unit {0}} (Err e) (rows_fault tree costs rows 0 rows)
  rows_stop e i d inside here so_far =
      subst (λ o. Answers {A = Unit {0}} (Err e) o) (sym (rows_split rows i d inside) ∙ so_far)
      (stop e (row_fault tree costs rows i (get_or rows i d)) (rows_fault tree costs rows (i + 1) (drop (i + 1) rows)) here)

  pub rows_more : (i : ℕ) (d : Row) → i < length rows → row_fault tree costs rows i (get_or rows i d) ≡ None → rows_fault tree costs rows i (drop i rows) ≡ rows_fault tree costs rows 0 rows → rows_fault tree costs rows (i + 1) (drop (i + 1) rows) ≡ rows_fault tree costs rows 0 rows
  rows_more i d inside here so_far =
      sym (ap (λ o. or_else o (rows_fault tree costs rows (i + 1) (drop (i + 1) rows))) here) ∙ sym (rows_split rows i d inside) ∙ so_far

  pub rows_done : (i : ℕ) → length rows ≤ i → rows_fault tree costs rows i (drop i rows) ≡ rows_fault tree costs rows 0 rows → rows_fault tree costs rows 0 rows ≡ None
  unfolding rows_fault
  rows_done i past so_far = sym so_far ∙ ap (rows_fault tree costs rows i) (drop_all i rows past)

  found_none : (i least : ℕ) (r : Result ℕ Key) → found_fault i least r ≡ None → r ≡ Ok least
  found_none i least (Err k) e = absurd cc
  found_none i least (Ok found) e = let same = if_none (eqb found least) None (RowWrong i least found) e in ap (λ n. Ok n) (eqb-true found least same.0)

  none_found : (i least : ℕ) (r : Result ℕ Key) → r ≡ Ok least → found_fault i least r ≡ None
  none_found i least r e = ap (found_fault i least) e ∙ rw (eq-eqb least least refl) refl

  rows_follow : (i : ℕ) (some : List Row) → rows_fault tree costs rows i some ≡ None → All (Follows tree costs rows) some
  unfolding rows_fault
  rows_follow i [] e j d inside = absurd (omega arith)
  rows_follow i (row ∷ some) e zero d inside = found_none i row.least (rule tree costs rows (key_of row)) (or_none (row_fault tree costs rows i row) (rows_fault tree costs rows (suc i) some) e).0
  rows_follow i (row ∷ some) e (suc j) d inside = rows_follow (suc i) some (or_none (row_fault tree costs rows i row) (rows_fault tree costs rows (suc i) some) e).1 j d (omega arith)

  follow_rows : (i : ℕ) (some : List Row) → All (Follows tree costs rows) some → rows_fault tree costs rows i some ≡ None
  unfolding rows_fault
  follow_rows i [] all = refl
  follow_rows i (row ∷ some) all =
      none_or (row_fault tree costs rows i row) (rows_fault tree costs rows (suc i) some) (none_found i row.least (rule tree costs rows (key_of row)) (all 0 row (omega arith))) (follow_rows (suc i) some (λ j d inside. all (suc j) d (omega arith)))

-- ---- the rows of the root

top_is : (rows : List Row) (k : Key) (least : ℕ) (o : Option ℕ) → there_fault rows k o ≡ None → least_fault o least ≡ None → o ≡ Some least
top_is rows k least None there e = absurd cc
top_is rows k least (Some v) there e = let same = if_none (eqb v least) None (ClaimWrong claims.Least) e in ap (λ n. Some n) (eqb-true v least same.0)

is_there : (rows : List Row) (k : Key) (least : ℕ) (o : Option ℕ) → o ≡ Some least → there_fault rows k o ≡ None
is_there rows k least o e = ap (there_fault rows k) e

is_least : (least : ℕ) (o : Option ℕ) → o ≡ Some least → least_fault o least ≡ None
is_least least o e = ap (λ p. least_fault p least) e ∙ rw (eq-eqb least least refl) refl

-- ---- the whole

module _ (tree : Tree) (costs : Costs) (cert : Cert) where
  now : Key
  now = key 0 cert.service cert.processors

  before : Key
  before = key 0 (cert.service - 1) cert.processors

  pub holds_from : HasLawfulCounts tree cert.counts.list → cert_fault tree costs cert ≡ None → CertHolds tree costs cert
  unfolding cert_fault now before
  holds_from lawful e =
      let p = or_none (claims_fault tree costs cert) (or_else (rows_fault tree costs cert.rows 0 cert.rows) (top_fault cert)) e in
      let q = or_none (rows_fault tree costs cert.rows 0 cert.rows) (top_fault cert) p.1 in
      let service_is = if_none (eqb cert.service (service tree costs cert.counts.list 0)) _ (ClaimWrong claims.Service) p.0 in
      let used_is = if_none (eqb cert.used (procs tree cert.counts.list 0)) _ (ClaimWrong claims.Used) service_is.1 in
      let fits_is = if_none (leb cert.used cert.processors) None (ClaimWrong claims.Fits) used_is.1 in
      let there = there_fault cert.rows now (kept cert.rows now) in
      let sooner = there_fault cert.rows before (kept cert.rows before) in
      let fewest = least_fault (kept cert.rows now) cert.used in
      let soonest = least_fault (kept cert.rows before) (cert.processors + 1) in
      record {
        lawful = lawful;
        service = eqb-true cert.service (service tree costs cert.counts.list 0) service_is.0;
        used = eqb-true cert.used (procs tree cert.counts.list 0) used_is.0;
        fits = leb-true cert.used cert.processors fits_is.0;
        follow = rows_follow tree costs cert.rows 0 cert.rows q.0;
        least = elim (cases_eq cert.service 0) [
          | inl none ↦
              let both : or_else there fewest ≡ None = rw (eq-eqb cert.service 0 none) at q.1 in
              let parts = or_none there fewest both in top_is cert.rows now cert.used (kept cert.rows now) parts.0 parts.1
          | inr some ↦
              let all : or_else there (or_else sooner (or_else fewest soonest)) ≡ None = rw (ne_eqb cert.service 0 some) at q.1 in
              let first = or_none there (or_else sooner (or_else fewest soonest)) all in
              let second = or_none sooner (or_else fewest soonest) first.1 in
              let third = or_none fewest soonest second.1 in top_is cert.rows now cert.used (kept cert.rows now) first.0 third.0
        ];
        no_sooner = λ some.
            let all : or_else there (or_else sooner (or_else fewest soonest)) ≡ None = rw (ne_eqb cert.service 0 (λ z. omega (arith, z, some))) at q.1 in
            let first = or_none there (or_else sooner (or_else fewest soonest)) all in
            let second = or_none sooner (or_else fewest soonest) first.1 in
            let third = or_none fewest soonest second.1 in top_is cert.rows before (cert.processors + 1) (kept cert.rows before) second.0 third.1;
      }

  top_holds : CertHolds tree costs cert → top_fault cert ≡ None
  unfolding now before
  top_holds holds =
      elim (cases_eq cert.service 0) [
        | inl none ↦ rw (eq-eqb cert.service 0 none)
            (none_or (there_fault cert.rows now (kept cert.rows now)) (least_fault (kept cert.rows now) cert.used) (is_there cert.rows now cert.used _ holds.least) (is_least cert.used _ holds.least))
        | inr some ↦
            let sooner = holds.no_sooner (omega (arith, some)) in
            rw (ne_eqb cert.service 0 some)
            (none_or _ _ (is_there cert.rows now cert.used (kept cert.rows now) holds.least)
            (none_or _ _ (is_there cert.rows before (cert.processors + 1) (kept cert.rows before) sooner)
            (none_or _ _ (is_least cert.used (kept cert.rows now) holds.least) (is_least (cert.processors + 1) (kept cert.rows before) sooner))))
      ]

  pub none_from : CertHolds tree costs cert → cert_fault tree costs cert ≡ None
  unfolding cert_fault
  none_from holds =
      let claims_hold : claims_fault tree costs cert ≡ None =
      rw (eq-eqb cert.service (service tree costs cert.counts.list 0) holds.service, eq-eqb cert.used (procs tree cert.counts.list 0) holds.used, le-leb cert.used cert.processors holds.fits) refl in
      none_or (claims_fault tree costs cert) (or_else (rows_fault tree costs cert.rows 0 cert.rows) (top_fault cert)) claims_hold
      (none_or (rows_fault tree costs cert.rows 0 cert.rows) (top_fault cert) (follow_rows tree costs cert.rows 0 cert.rows holds.follow) (top_holds holds))

pub ok_holds : {A : Type 0} {P : Type 0} (r : Result A CertRefusal) (fault : Option CertRefusal) → Answers r fault → (fault ≡ None → P) → OnOk r P
ok_holds (Ok v) fault h from = from h
ok_holds (Err e) fault h from = tt
