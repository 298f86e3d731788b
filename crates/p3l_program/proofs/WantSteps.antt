-- Why verdicts say that memory ran out, by the answers of the calls below.
use Rattle.std.proofs.Common.{◌≡◌, ◌||◌, ℕ, List, Bool, true, false, Err, inl, inr, refl, subst, sym}
use Rattle.p3l_skel.specs.declared.tree.Tree.{Tree}
use Rattle.p3l_cost.specs.declared.refusal.CostRefusal.{CostRefusal}
use Rattle.p3l_cost.specs.declared.refusal.CostRefusal.TheVariants as costs
use Rattle.p3l_cost.specs.File.{IsRead}
use Rattle.p3l_format.specs.Format.{read_all}
use Rattle.p3l_image.specs.declared.image.Image.{Image}
use Rattle.p3l_image.specs.declared.image.ImageRefusal.{ImageRefusal}
use Rattle.p3l_image.specs.declared.image.ImageRefusal.TheVariants as images
use Rattle.p3l_image.specs.Image.{image_in}
use Rattle.p3l_image.specs.Refusal as image
use Rattle.p3l_load.specs.declared.loaded.LoadRefusal.{LoadRefusal}
use Rattle.p3l_load.specs.declared.loaded.LoadRefusal.TheVariants as load
use Rattle.p3l_load.specs.Load.{Refuses, RefusesMigration}
use Rattle.p3l_resume.specs.declared.saved.ShotRefusal.{ShotRefusal}
use Rattle.p3l_resume.specs.declared.saved.ShotRefusal.TheVariants as shots
use Rattle.p3l_resume.specs.Refusal as shot
use Rattle.p3l_resume.specs.Saved.{saved_format}
use Rattle.p3l_run.specs.declared.fault.RunFault.{RunFault}
use Rattle.p3l_run.specs.declared.fault.RunFault.TheVariants as fault
use Rattle.p3l_run.specs.Wants as run
use Rattle.p3l_report.specs.declared.evidence.Evidence.TheVariants as evidence
use Rattle.p3l_report.specs.declared.verdict.Refusal.TheVariants as refusal
use Rattle.p3l_report.specs.declared.verdict.Verdict.{Verdict}
use Rattle.p3l_report.specs.declared.verdict.Verdict.TheVariants as verdict
use Rattle.p3l_report.specs.Verdict.{verdict_of}
use Rattle.p3l_sched.specs.declared.refusal.PickRefusal.{PickRefusal}
use Rattle.p3l_sched.specs.declared.refusal.PickRefusal.TheVariants as picks
use Rattle.p3l_sched.specs.Picks.{Reads}
use Rattle.p3l_trace.specs.declared.trace.TraceRefusal.{TraceRefusal}
use Rattle.p3l_trace.specs.declared.trace.TraceRefusal.TheVariants as traces
use Rattle.p3l_trace.specs.Answers as trace
use Rattle.p3l_trace.specs.Text.{trace_format}
use Rattle.p3l_program.specs.Verdict.{fault_verdict}
use Rattle.p3l_program.specs.Wants.{Wants}

-- of a file of costs
pub cost_wants : (outside : Bool) (tree : Tree) (text : List ℕ) (why : CostRefusal) → IsRead tree text (Err why) → Wants outside (verdict_of (refusal.Costs why))
cost_wants outside tree text costs.NotToml is = tt
cost_wants outside tree text (costs.BadKey key) is = tt
cost_wants outside tree text (costs.BadValue key) is = tt
cost_wants outside tree text (costs.Missing name) is = tt
cost_wants outside tree text costs.NoMemory (inl refused) = inl refused
cost_wants outside tree text costs.NoMemory (inr toml) = inr (inr (inl toml))

-- of a file of picks
pub schedule_wants : (outside : Bool) (text : List ℕ) (count : ℕ) (why : PickRefusal) → Reads text count (Err why) → Wants outside (verdict_of (refusal.Schedule why))
schedule_wants outside text count (picks.BadPick line) is = tt
schedule_wants outside text count (picks.NoSuchProcess line pick of_count) is = tt
schedule_wants outside text count picks.NoMemory is = inl is

-- of bytes of an image, and of an image
pub image_wants : (outside : Bool) (bytes : List ℕ) (why : ImageRefusal) → image.Answers bytes (Err why) (image_in bytes) → Wants outside (verdict_of (refusal.Evidence (evidence.Image why)))
image_wants outside bytes images.BadMagic is = tt
image_wants outside bytes (images.Version version) is = tt
image_wants outside bytes (images.Short place) is = tt
image_wants outside bytes (images.BadField place) is = tt
image_wants outside bytes (images.TrailingBytes place) is = tt
image_wants outside bytes images.NoMemory is = inl is

pub load_wants : (outside : Bool) (i : Image) (why : LoadRefusal) → Refuses i why → Wants outside (verdict_of (refusal.Evidence (evidence.Load why)))
load_wants outside i load.TreeWrong is = tt
load_wants outside i (load.CodeUnsafe number) is = tt
load_wants outside i load.NotLinked is = tt
load_wants outside i load.NoMemory is = inl is

pub migration_wants : (outside : Bool) (i : Image) (why : LoadRefusal) → RefusesMigration i why → Wants outside (verdict_of (refusal.Evidence (evidence.Load why)))
migration_wants outside i load.TreeWrong is = tt
migration_wants outside i (load.CodeUnsafe number) is = tt
migration_wants outside i load.NotLinked is = absurd is
migration_wants outside i load.NoMemory is = inl is

-- of a text of a trace
pub trace_wants : (outside : Bool) (text : List ℕ) (why : TraceRefusal) → trace.Answers text (Err why) (read_all trace_format text) → Wants outside (verdict_of (refusal.Evidence (evidence.Trace why)))
trace_wants outside text (traces.BadLine line) is = tt
trace_wants outside text traces.NoMemory is = inl is

-- of bytes of a snapshot
pub shot_wants : (outside : Bool) (bytes : List ℕ) (why : ShotRefusal) → shot.Answers bytes (Err why) (read_all saved_format bytes) → Wants outside (verdict_of (refusal.Evidence (evidence.Shot why)))
shot_wants outside bytes (shots.BadShot place) is = tt
shot_wants outside bytes shots.NoMemory is = inl is

-- of a run, whose units are tables of compiled bodies or others
pub run_wants : (units outside : Bool) (f : RunFault) → run.Wants units f → Wants (units || outside) (fault_verdict f)
run_wants units outside fault.Write is = tt
run_wants units outside fault.NoMemory (inl refused) = inl refused
run_wants units outside fault.NoMemory (inr own) = inr (inr (inr (subst (λ b. (b || outside) ≡ true) (sym own) refl)))

or_more : (units outside : Bool) → outside ≡ true → (units || outside) ≡ true
or_more true outside is = refl
or_more false outside is = is

-- a cause that files allow is one that files and units allow
pub wants_more : (units outside : Bool) (v : Verdict) → Wants outside v → Wants (units || outside) v
wants_more units outside (verdict.Refused refusal) is = tt
wants_more units outside (verdict.Ended finish stats) is = tt
wants_more units outside verdict.WriteFault is = tt
wants_more units outside verdict.NoMemory (inl refused) = inl refused
wants_more units outside verdict.NoMemory (inr (inl clap)) = inr (inl clap)
wants_more units outside verdict.NoMemory (inr (inr (inl toml))) = inr (inr (inl toml))
wants_more units outside verdict.NoMemory (inr (inr (inr is))) = inr (inr (inr (or_more units outside is)))
