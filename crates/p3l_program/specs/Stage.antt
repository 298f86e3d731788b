-- The stages that come before the work of a command, in the order of their statuses.
use Rattle.std.specs.Prelude.{◌≡◌, ℕ, List, [], ◌∷◌, ◌++◌, ◌⊎◌, Option, Some, None}
use Rattle.p3l_ast.specs.Tree.{ProgramTree}
use Rattle.p3l_io.specs.Change.{Change, HasFailed, HasSameFaults}
use Rattle.p3l_io.specs.Content.{Held}
use Rattle.p3l_cost.specs.declared.costs.Costs.{Costs}
use Rattle.p3l_cert.specs.declared.cert.Cert.{Cert}
use Rattle.p3l_image.specs.declared.image.Image.{Image}
use Rattle.p3l_opts.specs.declared.command.Build.{Build}
use Rattle.p3l_opts.specs.declared.command.Sched.{Sched}
use Rattle.p3l_opts.specs.declared.command.Sched.TheVariants as sched
use Rattle.p3l_report.specs.declared.evidence.Evidence.TheVariants as evidence
use Rattle.p3l_report.specs.declared.verdict.Refusal.{Refusal}
use Rattle.p3l_report.specs.declared.verdict.Refusal.TheVariants as refusal
use Rattle.p3l_resume.specs.declared.saved.Saved.{Saved}
use Rattle.p3l_resume.specs.Saved.{IsSpelling}
use Rattle.p3l_run.specs.Network.{Network, size_of}
use Rattle.p3l_sched.specs.declared.schedule.Schedule.{Schedule}
use Rattle.p3l_trace.specs.declared.trace.Traced.{Traced}
use Rattle.p3l_trace.specs.declared.trace.TraceRefusal.TheVariants as trace
use Rattle.p3l_check.specs.Resolving.{ResolvedTree}
use Rattle.p3l_program.specs.Plan.{HasCosts, HasCounts, HasNetwork, HasNoCosts, HasNoScan, HasNoTree, HasScan, HasTooFew, HasTree, IsAccepted, IsAllotted, IsNotAccepted, IsOverfull, IsPriced, IsUnpriced}
use Rattle.p3l_program.specs.Certified.{HasCert, HasNoCert, cert_limit}
use Rattle.p3l_program.specs.File.{HasFault, HasProgram, HasText, IsTooLong, text_limit}
use Rattle.p3l_program.specs.Image.{HasBytes, IsBrokenImage, IsImage, IsNoImage, IsMigratable, IsRunnableImage, IsUnmigratable, image_limit}
use Rattle.p3l_program.specs.Origin.{Origin, built, continued, imaged, scanned}
use Rattle.p3l_program.specs.Scheduled.{HasNoPicks, HasPicks, picks_limit}
use Rattle.p3l_program.specs.Snapshot.{HasSnapshot, IsNoSnapshot, IsResumable, IsUnsound, SpellsBrokenImage, SpellsNoImage, SpellsWith, snapshot_limit}
use Rattle.p3l_program.specs.TraceFile.{HasNoTrace, HasTrace}

-- the file of this name can be read, within its limit; its text spells a program; the program keeps all rules; the file of the second
-- name says costs of it; some counts fit the processors; the bytes of the file spell an image; the image can be run; it can be run once its net is linked anew; the file of this
-- name has picks for the network of what is run; the file of the last name has a certificate that holds for a program and its costs;
-- the file of this name spells a trace; the text spells a program that keeps all rules, the second text says costs of it, and some
-- counts of it fit this number of processors; the program of the file of this name can be scanned in this number of segments; the bytes
-- of the file spell a snapshot; those of its image spell an image; that image can be run; a run of it can be in the state that was saved
pub data Stage : Type 0 where
  readable : ℕ → List ℕ → Stage
  spelled : List ℕ → Stage
  resolved : List ℕ → Stage
  priced : List ℕ → List ℕ → Stage
  fitting : Build → Stage
  decoded : List ℕ → Stage
  loaded : List ℕ → Stage
  migratable : List ℕ → Stage
  scheduled : Origin → List ℕ → Stage
  certified : List ℕ → Option (List ℕ) → List ℕ → Stage
  traced : List ℕ → Stage
  text_kept : List ℕ → Stage
  text_priced : List ℕ → List ℕ → Stage
  text_fitting : List ℕ → List ℕ → ℕ → Stage
  scannable : List ℕ → (segments : ℕ) → Stage
  saved : List ℕ → Stage
  saved_decoded : List ℕ → Stage
  saved_loaded : List ℕ → Stage
  resumable : List ℕ → Stage

-- the stage is passed
abbrev pub Passes : Change Held → Stage → Type 0
Passes files (readable limit name) = (text : List ℕ) × HasText files.old.content limit name text
Passes files (spelled name) = (program : ProgramTree) × HasProgram files.old.content name program
Passes files (resolved name) = (r : ResolvedTree) × HasTree files.old.content name r
Passes files (priced program costs) = (r : ResolvedTree) × (cs : Costs) × HasCosts files.old.content program (Some costs) r cs
Passes files (fitting build) = (r : ResolvedTree) × (cs : Costs) × (counts : List ℕ) × HasCounts files.old.content build r cs counts
Passes files (decoded name) = (i : Image) × HasBytes files.old.content name (IsImage i)
Passes files (loaded name) = (i : Image) × HasBytes files.old.content name (IsRunnableImage i)
Passes files (migratable name) = (i : Image) × HasBytes files.old.content name (IsMigratable i)
Passes files (scheduled origin name) = (n : Network) × (s : Schedule) × HasNetwork files.old.content origin n × HasPicks files.old.content (size_of n) name s
Passes files (certified program costs name) = (r : ResolvedTree) × (cs : Costs) × (cert : Cert) × HasCert files.old.content program costs name r cs cert
Passes files (traced name) = (t : Traced) × HasTrace files.old.content name t
Passes files (text_kept text) = (r : ResolvedTree) × IsAccepted text r
Passes files (text_priced text said) = (r : ResolvedTree) × (cs : Costs) × IsPriced text (Some said) r cs
Passes files (text_fitting text said processors) = (r : ResolvedTree) × (cs : Costs) × (counts : List ℕ) × IsAllotted text (Some said) processors r cs counts
Passes files (scannable name segments) = (r : ResolvedTree) × HasScan files.old.content name segments r
Passes files (saved name) = (shot : Saved) × HasSnapshot files.old.content name (IsSpelling shot)
Passes files (saved_decoded name) = (i : Image) × HasSnapshot files.old.content name (SpellsWith (IsImage i))
Passes files (saved_loaded name) = (i : Image) × HasSnapshot files.old.content name (SpellsWith (IsRunnableImage i))
Passes files (resumable name) = (i : Image) × (shot : Saved) × HasSnapshot files.old.content name (IsResumable i shot)

-- the stage refuses so
abbrev pub Refuses : Change Held → Stage → Refusal → Type 0
Refuses files (readable limit name) (refusal.FileFault named) = (named ≡ name) × HasFailed files name
Refuses files (readable limit name) (refusal.FileTooLong named) = (named ≡ name) × IsTooLong files.old.content limit name
Refuses files (spelled name) (refusal.Source fault pos) = HasFault files.old.content name fault pos
Refuses files (resolved name) (refusal.Source fault pos) = HasNoTree files.old.content name fault pos
Refuses files (priced program costs) (refusal.Costs why) = HasNoCosts files.old.content program costs why
Refuses files (fitting build) (refusal.TooFew need) = HasTooFew files.old.content build need
Refuses files (decoded name) (refusal.Evidence (evidence.Image why)) = HasBytes files.old.content name (IsNoImage why)
Refuses files (loaded name) (refusal.Evidence (evidence.Load why)) = HasBytes files.old.content name (IsBrokenImage why)
Refuses files (migratable name) (refusal.Evidence (evidence.Load why)) = HasBytes files.old.content name (IsUnmigratable why)
Refuses files (scheduled origin name) (refusal.Schedule why) = HasNoPicks files.old.content origin name why
Refuses files (certified program costs name) (refusal.Evidence (evidence.Cert why)) = HasNoCert files.old.content program costs name why
Refuses files (traced name) (refusal.Evidence (evidence.Trace (trace.BadLine line))) = HasNoTrace files.old.content name line
Refuses files (text_kept text) (refusal.Source fault pos) = IsNotAccepted text fault pos
Refuses files (text_priced text said) (refusal.Costs why) = IsUnpriced text said why
Refuses files (text_fitting text said processors) (refusal.TooFew need) = IsOverfull text (Some said) processors need
Refuses files (scannable name segments) (refusal.Scan why) = HasNoScan files.old.content name segments why
Refuses files (saved name) (refusal.Evidence (evidence.Shot why)) = HasSnapshot files.old.content name (IsNoSnapshot why)
Refuses files (saved_decoded name) (refusal.Evidence (evidence.Image why)) = HasSnapshot files.old.content name (SpellsNoImage why)
Refuses files (saved_loaded name) (refusal.Evidence (evidence.Load why)) = HasSnapshot files.old.content name (SpellsBrokenImage why)
Refuses files (resumable name) (refusal.Evidence evidence.NotSound) = HasSnapshot files.old.content name IsUnsound
Refuses files stage refused = ⊥

-- all stages are passed
abbrev pub AllPass : Change Held → List Stage → Type 0
AllPass files [] = Unit {0}
AllPass files (stage ∷ stages) = Passes files stage × AllPass files stages

-- all stages before one are passed, and this one refuses so
abbrev pub IsRefusedBy : Change Held → List Stage → Refusal → Type 0
IsRefusedBy files [] refused = ⊥
IsRefusedBy files (stage ∷ stages) refused = Refuses files stage refused ⊎ (Passes files stage × IsRefusedBy files stages refused)

-- the cause of a refusal, in the count of faults of the files: only a fault of reading raises it, and it names the file
-- whose reading failed
abbrev pub FilesCause : Refusal → Change Held → Type 0
FilesCause (refusal.FileFault name) files = HasFailed files name
FilesCause refused files = HasSameFaults files

-- a program is read, and keeps all rules
abbrev pub program_stages : List ℕ → List Stage
program_stages name = readable text_limit name ∷ (resolved name ∷ [])

-- a file of costs is read, where one is named, and says costs of the program
abbrev pub cost_stages : List ℕ → Option (List ℕ) → List Stage
cost_stages program None = []
cost_stages program (Some costs) = readable text_limit costs ∷ (priced program costs ∷ [])

-- counts are chosen for a program with its costs
abbrev pub build_stages : Build → List Stage
build_stages build = program_stages build.program ++ (cost_stages build.program build.costs ++ fitting build ∷ [])

-- a file of a certificate is read, and its certificate holds for a program and its costs
abbrev pub cert_stages : List ℕ → Option (List ℕ) → List ℕ → List Stage
cert_stages program costs cert = readable cert_limit cert ∷ (certified program costs cert ∷ [])

abbrev pub verify_stages : List ℕ → List ℕ → Option (List ℕ) → List Stage
verify_stages program cert costs = program_stages program ++ (cost_stages program costs ++ cert_stages program costs cert)

-- an image is read, spelled by its bytes, and can be run
abbrev pub image_stages : List ℕ → List Stage
image_stages name = readable image_limit name ∷ (decoded name ∷ (loaded name ∷ []))

-- an image is read, spelled by its bytes, and can be run once its net is linked anew
abbrev pub migrate_stages : List ℕ → List Stage
migrate_stages name = readable image_limit name ∷ (decoded name ∷ (migratable name ∷ []))

-- a program is read, keeps all rules and can be scanned in this number of segments
abbrev pub scan_stages : List ℕ → (segments : ℕ) → List Stage
scan_stages name segments = program_stages name ++ scannable name segments ∷ []

-- a snapshot is read, spelled by its bytes, its image is spelled by its own and can be run, and a run of it can be in the state that was saved
abbrev pub snapshot_stages : List ℕ → List Stage
snapshot_stages name = readable snapshot_limit name ∷ (saved name ∷ (saved_decoded name ∷ (saved_loaded name ∷ (resumable name ∷ []))))

-- the stages of an origin: it is built or loaded, or its scan is planned
abbrev pub origin_stages : Origin → List Stage
origin_stages (built build) = build_stages build
origin_stages (imaged name) = image_stages name
origin_stages (scanned name segments capacity) = scan_stages name segments
origin_stages (continued name) = snapshot_stages name

-- a file of picks is read, where one is named, and has picks for the network
abbrev pub schedule_stages : Origin → Sched → List Stage
schedule_stages origin sched.RoundRobin = []
schedule_stages origin (sched.Seeded seed) = []
schedule_stages origin (sched.File name) = readable picks_limit name ∷ (scheduled origin name ∷ [])

-- the stages of a run: its origin is built or loaded, or its scan is planned, and it has a schedule
abbrev pub run_stages : Origin → Sched → List Stage
run_stages origin schedule = origin_stages origin ++ schedule_stages origin schedule
