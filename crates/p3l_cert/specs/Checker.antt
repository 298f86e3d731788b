-- The claims of a certificate, and the first of its tests that fails.
use Rattle.std.specs.Prelude.{◌≡◌, ℕ, suc, ◌+◌, ◌-◌, ◌<◌, ◌≤◌, ◌==◌, nat_le, if◌then◌else◌, Option, Some, None, Result, Ok, Err, List, [], ◌∷◌, length}
use Rattle.std.specs.List.{All}
use Rattle.p3l_skel.specs.declared.tree.Tree.{Tree}
use Rattle.p3l_skel.specs.Counts.{HasLawfulCounts}
use Rattle.p3l_skel.specs.Numbers.{procs}
use Rattle.p3l_cost.specs.declared.costs.Costs.{Costs}
use Rattle.p3l_model.specs.Service.{service}
use Rattle.p3l_cert.specs.declared.cert.Cert.{Cert}
use Rattle.p3l_cert.specs.declared.cert.CertRefusal.{CertRefusal}
use Rattle.p3l_cert.specs.declared.cert.CertRefusal.TheVariants.{RowWrong, RowMissing, ClaimWrong, NoMemory}
use Rattle.p3l_cert.specs.declared.cert.Claim.TheVariants as claims
use Rattle.p3l_cert.specs.declared.cert.Key.{Key}
use Rattle.p3l_cert.specs.declared.cert.Row.{Row}
use Rattle.p3l_cert.specs.Rule.{key, key_of, kept, rule, Follows}
use Rattle.p3l_base.specs.Memory.{Refused}

-- its claims of the counts, and its rows, are true, and its rows say that no counts are better
pub record CertHolds (tree : Tree) (costs : Costs) (cert : Cert) : Type 0 where
  pub lawful : HasLawfulCounts tree cert.counts.list
  pub service : cert.service ≡ service tree costs cert.counts.list 0
  pub used : cert.used ≡ procs tree cert.counts.list 0
  pub fits : cert.used ≤ cert.processors
  pub follow : All (Follows tree costs cert.rows) cert.rows
  pub least : kept cert.rows (key 0 cert.service cert.processors) ≡ Some cert.used
  pub no_sooner : 0 < cert.service → kept cert.rows (key 0 (cert.service - 1) cert.processors) ≡ Some (cert.processors + 1)

-- ---- the first test that fails, in their order, where the counts are lawful

abbrev pub or_else : Option CertRefusal → Option CertRefusal → Option CertRefusal
or_else None next = next
or_else (Some refusal) next = Some refusal

abbrev pub claims_fault : Tree → Costs → Cert → Option CertRefusal
claims_fault tree costs cert =
    if cert.service == service tree costs cert.counts.list 0 then
    if cert.used == procs tree cert.counts.list 0 then if nat_le cert.used cert.processors then None else Some (ClaimWrong claims.Fits)
    else Some (ClaimWrong claims.Used)
    else Some (ClaimWrong claims.Service)

-- a row of this number, of which its rule finds something
abbrev pub found_fault : ℕ → ℕ → Result ℕ Key → Option CertRefusal
found_fault row kept (Err k) = Some (RowMissing row k.node k.bound k.cap)
found_fault row kept (Ok found) = if found == kept then None else Some (RowWrong row kept found)

abbrev pub row_fault : Tree → Costs → List Row → ℕ → Row → Option CertRefusal
row_fault tree costs rows number row = found_fault number row.least (rule tree costs rows (key_of row))

-- the first of some rows, numbered from a number on
unfoldable pub rows_fault : Tree → Costs → List Row → ℕ → List Row → Option CertRefusal
rows_fault tree costs rows number [] = None
rows_fault tree costs rows number (row ∷ more) = or_else (row_fault tree costs rows number row) (rows_fault tree costs rows (suc number) more)

-- a row of the root has to be there
abbrev pub there_fault : List Row → Key → Option ℕ → Option CertRefusal
there_fault rows k None = Some (RowMissing (length rows) k.node k.bound k.cap)
there_fault rows k (Some least) = None

abbrev pub least_fault : Option ℕ → ℕ → Option CertRefusal
least_fault None least = None
least_fault (Some kept) least = if kept == least then None else Some (ClaimWrong claims.Least)

-- both rows of the root where the service time isn't 0, and else the first
abbrev pub top_fault : Cert → Option CertRefusal
top_fault cert =
    let now = key 0 cert.service cert.processors in
    let before = key 0 (cert.service - 1) cert.processors in
    if cert.service == 0 then or_else (there_fault cert.rows now (kept cert.rows now)) (least_fault (kept cert.rows now) cert.used)
    else
    or_else (there_fault cert.rows now (kept cert.rows now)) (or_else (there_fault cert.rows before (kept cert.rows before))
    (or_else (least_fault (kept cert.rows now) cert.used) (least_fault (kept cert.rows before) (cert.processors + 1))))

unfoldable pub cert_fault : Tree → Costs → Cert → Option CertRefusal
cert_fault tree costs cert = or_else (claims_fault tree costs cert) (or_else (rows_fault tree costs cert.rows 0 cert.rows) (top_fault cert))

-- a call answered with the first fault, unless out of memory
abbrev pub Answers : {A : Type 0} → Result A CertRefusal → Option CertRefusal → Type 0
Answers (Ok v) fault = fault ≡ None
Answers (Err NoMemory) fault = Refused
Answers (Err refusal) fault = fault ≡ Some refusal

-- the same, with the test of the counts before all others
pub record IsAnswer {A : Type 0} (tree : Tree) (costs : Costs) (cert : Cert) (answer : Result A CertRefusal) : Type 0 where
  pub lawful : HasLawfulCounts tree cert.counts.list → Answers answer (cert_fault tree costs cert)
  pub unlawful : (HasLawfulCounts tree cert.counts.list → ⊥) → Answers answer (Some (ClaimWrong claims.Counts))
