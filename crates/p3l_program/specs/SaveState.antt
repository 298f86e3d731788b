-- The command `save`: a program run on the input under recorded picks, and the state that they come to written as a snapshot.
use Rattle.std.specs.Prelude.{◌≡◌, ◌≢◌, ℕ, ℤ, ◌<◌, ◌≤◌, ◌^◌, false, List, [], ◌∷◌, ◌++◌, ◌⊎◌, length, Ok, Err, Option, Some, None, if◌then◌else◌}
use Rattle.p3l_code.specs.declared.instr.Code.{Code}
use Rattle.p3l_compile.specs.Leaves.{AreCodes}
use Rattle.p3l_cost.specs.declared.costs.Costs.{Costs}
use Rattle.p3l_check.specs.Resolving.{ResolvedTree}
use Rattle.p3l_firing.specs.Token.{has_trap}
use Rattle.p3l_firing.specs.Typed.{IsTyped}
use Rattle.p3l_io.specs.Change.{Change, HasFailed, HasRisen, HasSameContent, HasSameFaults, IsStill}
use Rattle.p3l_io.specs.Content.{Held}
use Rattle.p3l_link.specs.Net.{linked_net}
use Rattle.p3l_code.specs.declared.safe.SafeCode.{SafeCode}
use Rattle.p3l_image.specs.Image.{image_text}
use Rattle.p3l_load.specs.Compiled.{IsImageText, image_of}
use Rattle.p3l_load.specs.Load.{loaded_of}
use Rattle.p3l_firing.specs.Outcomes.{IsPrefixOf}
use Rattle.p3l_firing.specs.declared.shot.Shot.{Shot}
use Rattle.p3l_net.specs.Machine.{Seen}
use Rattle.p3l_net.specs.Offered.{Follows}
use Rattle.p3l_net.specs.Shot.{shot_of}
use Rattle.p3l_opts.specs.declared.command.Build.{Build}
use Rattle.p3l_opts.specs.declared.command.Sched.TheVariants as sched
use Rattle.p3l_report.specs.declared.stats.Stats.{Stats}
use Rattle.p3l_report.specs.declared.stats.Stats.TheVariants as stats
use Rattle.p3l_report.specs.declared.verdict.Finish.{Finish}
use Rattle.p3l_report.specs.declared.verdict.Finish.TheVariants as finish
use Rattle.p3l_report.specs.declared.verdict.Verdict.{Verdict}
use Rattle.p3l_report.specs.declared.verdict.Verdict.TheVariants as verdict
use Rattle.p3l_report.specs.Status as status
use Rattle.p3l_report.specs.Verdict.{ending_status}
use Rattle.p3l_resume.specs.declared.saved.Saved.{Saved}
use Rattle.p3l_resume.specs.Ranges.{IsFew}
use Rattle.p3l_resume.specs.Saved.{CanBeWritten, saved_text}
use Rattle.p3l_resume_laws.specs.Kept.{IsSoundShot}
use Rattle.p3l_resume_laws.specs.Saved.{FitsLinked}
use Rattle.p3l_skel.specs.declared.tree.Tree.{Tree}
use Rattle.p3l_skel.specs.Counts.{HasLawfulCounts}
use Rattle.p3l_run.specs.declared.checkpoint.Checkpoint.{Checkpoint}
use Rattle.p3l_run.specs.declared.end.RunEnd.{RunEnd}
use Rattle.p3l_run.specs.declared.end.RunEnd.TheVariants as end
use Rattle.p3l_run.specs.Checkpoint.{Breaks, IsCutOff, IsTrapped, Reaches}
use Rattle.p3l_run.specs.Checkpoint as checkpoint
use Rattle.p3l_run.specs.Network.{Network, course_under, meaning_of, size_of, width_of}
use Rattle.p3l_run.specs.Write.{HasBegun}
use Rattle.p3l_sched.specs.declared.schedule.Schedule.TheVariants as schedule
use Rattle.p3l_stream.specs.declared.items.Ending.{Ending}
use Rattle.p3l_stream.specs.declared.items.Ending.TheVariants as ending
use Rattle.p3l_stream.specs.declared.items.Items.{Items}
use Rattle.p3l_stream.specs.Items.{items_of}
use Rattle.p3l_stream.specs.Text.{text_of}
use Rattle.p3l_template.specs.Units.{Units}
use Rattle.p3l_program.specs.declared.imaged.Imaged.{Imaged}
use Rattle.p3l_program.specs.declared.plan.Allotted.{Allotted}
use Rattle.p3l_program.specs.Behavior.{Behavior}
use Rattle.p3l_program.specs.Expected.{IsExpectedWith}
use Rattle.p3l_program.specs.Load.{Loads, LoadsNetwork}
use Rattle.p3l_program.specs.LoadImage.{IsReadyImage}
use Rattle.p3l_program.specs.Origin.{built}
use Rattle.p3l_program.specs.Plan.{HasCounts, IsAccepted, network_in, network_of}
use Rattle.p3l_program.specs.Run.{HasNoSchedule, IsRunNot, seen_of}
use Rattle.p3l_program.specs.Saved.{HasSave, IsSaved, KeepsFiles}
use Rattle.p3l_program.specs.Scheduled.{HasPicks}
use Rattle.p3l_program.specs.Stage.{Stage, build_stages, schedule_stages}
use Rattle.p3l_program.specs.World.{World}

-- the units of a network: its tree, and the outcomes of its `seq` modules on words
abbrev pub units_of : Network → Units
units_of n = record { tree = n.tree; leaf = n.leaf }

-- ---- what is run, and what is saved of it

-- the one program that files and words request: its network, the counts that are chosen for it, and the bytes of its image under them,
-- from which this same network is loaded
pub record HasImaged (files : Option Held) (build : Build) (n : Network) (counts image : List ℕ) : Type 0 where
  pub r : ResolvedTree
  pub cs : Costs
  pub has : HasCounts files build r cs counts
  pub only : (other : ResolvedTree) → IsAccepted has.text other → other ≡ r
  pub codes : List Code
  pub compiled : AreCodes r.seqs codes
  pub image_is : IsImageText (image_of r.tree counts codes build.capacity) image
  pub network_is : n ≡ network_of r counts build.capacity
  pub loaded_is : n ≡ network_in (loaded_of (image_of r.tree counts codes build.capacity))
  pub room : 1 ≤ build.capacity

-- and the picks of the file of this name
pub record HasPicked (files : Option Held) (build : Build) (name : List ℕ) (n : Network) (counts image picks : List ℕ) : Type 0 where
  pub imaged : HasImaged files build n counts image
  pub picks_are : HasPicks files (size_of n) name (schedule.Recorded picks)

abbrev pub snapshot : Shot → (image : List ℕ) → Saved
snapshot shot image = record { shot = shot; image = image }

-- the bytes are those of a snapshot of this shot, with the bytes of an image; the network under these counts can be in the state
-- that it has, so that it is not refused when it is resumed
pub record IsSnapshot (n : Network) (counts : List ℕ) (capacity : ℕ) (shot : Shot) (image bytes : List ℕ) : Type 0 where
  pub sound : IsSoundShot (units_of n) counts capacity shot
  pub fits : CanBeWritten (snapshot shot image)
  pub bytes_are : bytes ≡ saved_text (snapshot shot image)

-- the outcomes of a run so far are a prefix of the meaning of the items that the stream gave; and if the stream ended, all of them
-- were sent
pub record IsMeant (n : Network) (picks : List ℕ) (input out : Change (List ℕ)) (reached : Reaches n picks input out) : Type 0 where
  pub begins : IsPrefixOf reached.outcomes (meaning_of n reached.items)
  pub sent : (e : Ending) → reached.close ≡ Some e → (course_under n reached.items reached.used).state.sent ≡ length reached.items

-- ---- how a run to a checkpoint ends

-- A NETWORK WAS RUN TO A CHECKPOINT: the text of what it emits under the picks that were used, on the items that were offered, was
-- written, and its state is to be saved
pub record ComesTo (n : Network) (picks : List ℕ) (input out : Change (List ℕ)) (saved : Checkpoint) : Type 0 where
  pub is : checkpoint.IsSaved n picks input out saved
  pub meant : IsMeant n picks input out is.reached

-- and the file of this name has a snapshot of it, with the bytes of this image; its numbers are reported
pub record SavesState (n : Network) (counts : List ℕ) (capacity : ℕ) (image picks : List ℕ) (files : Change Held) (input out : Change (List ℕ)) (name : List ℕ) (report : Option Stats) : Type 0 where
  pub saved : Checkpoint
  pub comes : ComesTo n picks input out saved
  pub report_is : report ≡ Some (stats.Saved saved.items saved.picks)
  pub bytes : List ℕ
  pub snapshot_is : IsSnapshot n counts capacity saved.shot image bytes
  pub stands : IsSaved files name bytes

-- the stream ended so, which is not its end, in place of an item for a pick; nothing is saved
pub record StopsAt (n : Network) (picks : List ℕ) (input out : Change (List ℕ)) (report : Option Stats) (e : Ending) : Type 0 where
  pub report_is : report ≡ None
  pub is : IsCutOff n picks input out e
  pub meant : IsMeant n picks input out is.reached

-- a trap was emitted, so that a run ends so; nothing is saved
pub record TrapsAt (n : Network) (picks : List ℕ) (input out : Change (List ℕ)) (report : Option Stats) (f : RunEnd) : Type 0 where
  pub report_is : report ≡ None
  pub is : IsTrapped n picks input out f
  pub meant : IsMeant n picks input out is.reached

-- the end of such a run; without a checkpoint no file is written
abbrev pub SavesTo : Network → (counts : List ℕ) → (capacity : ℕ) → (image picks : List ℕ) → Change Held → Change (List ℕ) → Change (List ℕ) → (name : List ℕ) → Option Stats → Finish → Type 0
SavesTo n counts capacity image picks files input out name report finish.Done = SavesState n counts capacity image picks files input out name report
SavesTo n counts capacity image picks files input out name report (finish.Run (end.Stream e)) = StopsAt n picks input out report e × HasSameContent files
SavesTo n counts capacity image picks files input out name report (finish.Run (end.Trapped item kind home)) = TrapsAt n picks input out report (end.Trapped item kind home) × HasSameContent files
SavesTo n counts capacity image picks files input out name report f = ⊥

-- or a prefix of the text of the meaning was written, and of what the network emits under some of the picks
pub record IsSaveBegun (n : Network) (picks : List ℕ) (input out : Change (List ℕ)) : Type 0 where
  pub breaks : Breaks n picks input out
  pub begun : HasBegun out (text_of (meaning_of n breaks.items))

-- ---- what the command does

-- the program that files and words request was run under the picks, to this end
pub record EndsSave (w : World) (build : Build) (name output : List ℕ) (f : Finish) (report : Option Stats) : Type 0 where
  pub n : Network
  pub counts : List ℕ
  pub image : List ℕ
  pub picks : List ℕ
  pub has : HasPicked w.files.old.content build name n counts image picks
  pub to : SavesTo n counts build.capacity image picks w.files w.input w.output output report f

-- it came to its checkpoint, whatever became of the snapshot
pub record SavesOver (w : World) (build : Build) (name : List ℕ) : Type 0 where
  pub n : Network
  pub counts : List ℕ
  pub image : List ℕ
  pub picks : List ℕ
  pub has : HasPicked w.files.old.content build name n counts image picks
  pub saved : Checkpoint
  pub comes : ComesTo n picks w.input w.output saved

-- or it was begun
pub record BeginsSave (w : World) (build : Build) (name : List ℕ) : Type 0 where
  pub n : Network
  pub counts : List ℕ
  pub image : List ℕ
  pub picks : List ℕ
  pub has : HasPicked w.files.old.content build name n counts image picks
  pub begun : IsSaveBegun n picks w.input w.output

-- the file of the snapshot could not be written, when the checkpoint was reached
abbrev pub UnsavedState : World → Build → (name output : List ℕ) → Type 0
UnsavedState w build name output = SavesOver w build name × HasSameFaults w.output × HasFailed w.files output

-- the picks of a file as far as they are made on these items: those used, and then the others. No trap was emitted before the last
-- of those used, and some item was not sent yet; and if no trap was emitted and others are left, all items were sent
pub record IsUsed (n : Network) (items : List (List ℤ)) (picks used unused : List ℕ) : Type 0 where
  pub whole : used ++ unused ≡ picks
  pub untrapped : (front : List ℕ) (p : ℕ) → used ≡ front ++ p ∷ [] → has_trap (course_under n items front).state.emitted ≡ false
  pub filled : (front : List ℕ) (p : ℕ) → used ≡ front ++ p ∷ [] → (course_under n items front).state.sent < length items
  pub over : has_trap (course_under n items used).state.emitted ≡ false → unused ≢ [] → (course_under n items used).state.sent ≡ length items

-- a machine has the state that a run of a network on these items comes to under these picks, and this shot is what is saved of it:
-- of the items it was offered all but the later ones
pub record IsShotOf (n : Network) (offered later : List (List ℤ)) (used : List ℕ) (shot : Shot) : Type 0 where
  pub m : Seen
  pub follows : Follows m (course_under n (offered ++ later) used).state.emitted later (course_under n (offered ++ later) used)
  pub shot_is : shot ≡ shot_of m

-- over an input and an output that report: the picks were used as far as the items of the input go, with no trap, the whole text of what
-- the network emits under them was written, and the file of the snapshot has the state that they come to
pub record SavesWhole (w : World) (build : Build) (name output rest taken : List ℕ) : Type 0 where
  pub n : Network
  pub counts : List ℕ
  pub image : List ℕ
  pub picks : List ℕ
  pub has : HasPicked w.files.old.content build name n counts image picks
  pub used : List ℕ
  pub unused : List ℕ
  pub is_used : IsUsed n (items_of (width_of n) rest).items picks used unused
  pub untrapped : has_trap (course_under n (items_of (width_of n) rest).items used).state.emitted ≡ false
  pub ended : unused ≢ [] → (items_of (width_of n) rest).ending ≡ ending.End
  pub taken_is : w.output.new.content ≡ Some (taken ++ text_of (course_under n (items_of (width_of n) rest).items used).state.emitted)
  pub offered : List (List ℤ)
  pub later : List (List ℤ)
  pub items_are : (items_of (width_of n) rest).items ≡ offered ++ later
  pub shot : Shot
  pub shot_is : IsShotOf n offered later used shot
  pub bytes : List ℕ
  pub snapshot_is : IsSnapshot n counts build.capacity shot image bytes
  pub stands : IsSaved w.files output bytes

-- the status of a run without a trap that leaves these picks unused, on a stream that ends so
abbrev pub unused_status : List ℕ → Ending → ℕ
unused_status [] e = status.done
unused_status (p ∷ picks) e = ending_status e

-- the status of a run that uses the picks `used`, on what is seen of an input: that of a trap where one is emitted, else 0 where the
-- picks are ended, else how the input ended
abbrev pub save_status : Network → (used unused : List ℕ) → Items → ℕ
save_status n used unused seen =
    if has_trap (course_under n seen.items used).state.emitted then status.trap else unused_status unused seen.ending

-- the command is expected to end with this status
pub record IsSaveStatus (w : World) (build : Build) (name rest : List ℕ) (k : ℕ) : Type 0 where
  pub n : Network
  pub counts : List ℕ
  pub image : List ℕ
  pub picks : List ℕ
  pub has : HasPicked w.files.old.content build name n counts image picks
  pub used : List ℕ
  pub unused : List ℕ
  pub is_used : IsUsed n (seen_of (width_of n) rest).items picks used unused
  pub status_is : k ≡ save_status n used unused (seen_of (width_of n) rest)

-- the stages of `save`: the program is built, and the file of picks has picks for it
abbrev pub save_stages : Build → List ℕ → List Stage
save_stages build name = build_stages build ++ schedule_stages (built build) (sched.File name)

-- it is run on the input under the picks, and its state is written
abbrev pub save_behavior : Build → (name output : List ℕ) → Behavior
save_behavior build name output = record {
  stages = save_stages build name;
  written = output ∷ [];
  saved_first = [];
  run = None;
  Ends = λ w f report. EndsSave w build name output f report;
  Begins = λ w. BeginsSave w build name;
  Unsaved = λ w. UnsavedState w build name output;
  Touches = λ w. SavesOver w build name;
  IsWhole = λ w rest taken. SavesWhole w build name output rest taken;
  IsStatusExpected = λ w rest k. IsSaveStatus w build name rest k;
}

-- a verdict is expected of the command
abbrev pub IsSaveExpected : World → Build → (name output : List ℕ) → Verdict → Type 0
IsSaveExpected w build name output v = IsExpectedWith w (save_stages build name) (EndsSave w build name output) (BeginsSave w build name) (UnsavedState w build name output) v

-- ---- what its functions do

-- the network of an allotted program, linked, with the bytes of its image
pub record IsImagedAs (loaded : Allotted) (capacity : ℕ) (imaged : Imaged) : Type 0 where
  pub network_is : imaged.network ≡ record {
    cap = capacity;
    tree = loaded.program.tree;
    counts = loaded.choice.counts;
    codes = loaded.program.codes;
    net = linked_net loaded.program.tree loaded.choice.counts.list capacity;
  }
  pub text : IsImageText (image_of loaded.program.tree loaded.choice.counts.list loaded.program.codes capacity) imaged.image
  pub few : IsFew imaged.image

-- the bytes of an image can't be counted in 32 bits, so no snapshot can hold them
abbrev pub IsLongImage : Tree → List ℕ → List SafeCode → ℕ → Type 0
IsLongImage tree counts codes capacity = 2 ^ 32 ≤ length (image_text (image_of tree counts codes capacity))

-- so it is of the image of the one program that files and words request
pub record HasLongImage (files : Option Held) (build : Build) : Type 0 where
  pub loaded : Allotted
  pub loads : Loads files build loaded
  pub long : IsLongImage loaded.program.tree loaded.choice.counts.list loaded.program.codes build.capacity

-- a network that was loaded with the bytes of its image, which can be counted in 32 bits
pub record IsReadyToSave (imaged : Imaged) : Type 0 where
  pub ready : IsReadyImage imaged.network
  pub small : imaged.network.cap ≤ 1024
  pub few : IsFew imaged.image

-- it is that of the one program that files and words request
pub record LoadsImaged (files : Option Held) (build : Build) (imaged : Imaged) : Type 0 where
  pub network : LoadsNetwork files (built build) (network_in imaged.network)
  pub has : HasImaged files build (network_in imaged.network) imaged.network.counts.list imaged.image
  pub capacity_is : imaged.network.cap ≡ build.capacity

-- a network was run under the picks of a file, to a checkpoint
pub record IsReached (n : Network) (files : Change Held) (input out : Change (List ℕ)) (name : List ℕ) (saved : Checkpoint) : Type 0 where
  pub picks : List ℕ
  pub picks_are : HasPicks files.old.content (size_of n) name (schedule.Recorded picks)
  pub comes : ComesTo n picks input out saved

-- or it was begun
pub record IsSaveSome (n : Network) (files : Change Held) (input out : Change (List ℕ)) (name : List ℕ) : Type 0 where
  pub picks : List ℕ
  pub picks_are : HasPicks files.old.content (size_of n) name (schedule.Recorded picks)
  pub begun : IsSaveBegun n picks input out

-- or it came to another end
abbrev pub EndsEarly : Network → (picks : List ℕ) → Change (List ℕ) → Change (List ℕ) → Finish → Type 0
EndsEarly n picks input out (finish.Run (end.Stream e)) = StopsAt n picks input out None e
EndsEarly n picks input out (finish.Run (end.Trapped item kind home)) = TrapsAt n picks input out None (end.Trapped item kind home)
EndsEarly n picks input out f = ⊥

pub record IsEndedEarly (n : Network) (files : Change Held) (input out : Change (List ℕ)) (name : List ℕ) (f : Finish) : Type 0 where
  pub picks : List ℕ
  pub picks_are : HasPicks files.old.content (size_of n) name (schedule.Recorded picks)
  pub ends : EndsEarly n picks input out f

-- why it came to no checkpoint
abbrev pub IsUnreached : Network → Change Held → Change (List ℕ) → Change (List ℕ) → List ℕ → Verdict → Type 0
IsUnreached n files input out name (verdict.Refused refused) = HasNoSchedule files (size_of n) (sched.File name) (verdict.Refused refused) × IsRunNot files input out
IsUnreached n files input out name (verdict.Ended f report) = (report ≡ None) × IsEndedEarly n files input out name f × HasSameFaults files × HasSameFaults out
IsUnreached n files input out name verdict.WriteFault = IsSaveSome n files input out name × HasSameFaults files × HasRisen out
IsUnreached n files input out name verdict.NoMemory = IsRunNot files input out ⊎ IsSaveSome n files input out name

-- a shot fits some linked net
pub record FitsSome (shot : Shot) : Type 0 where
  pub tree : Tree
  pub counts : List ℕ
  pub capacity : ℕ
  pub typed : IsTyped tree (linked_net tree counts capacity)
  pub fit : HasLawfulCounts tree counts
  pub small : capacity ≤ 1024
  pub fits : FitsLinked tree counts capacity shot

-- the result of writing the snapshot of a checkpoint to its file
abbrev pub IsWriting : Change Held → Checkpoint → (image name : List ℕ) → Verdict → Type 0
IsWriting files saved image name (verdict.Ended f report) =
    (f ≡ finish.Done) × (report ≡ Some (stats.Saved saved.items saved.picks)) × CanBeWritten (snapshot saved.shot image) × HasSave files name (saved_text (snapshot saved.shot image)) (Ok tt)
IsWriting files saved image name verdict.NoMemory = IsStill files ⊎ HasSave files name (saved_text (snapshot saved.shot image)) (Err verdict.NoMemory)
IsWriting files saved image name v = HasSave files name (saved_text (snapshot saved.shot image)) (Err v)

-- a network was run under the picks of a file, to this end
pub record IsSavedTo (n : Network) (counts : List ℕ) (capacity : ℕ) (image : List ℕ) (files : Change Held) (input out : Change (List ℕ)) (name output : List ℕ) (f : Finish) (report : Option Stats) : Type 0 where
  pub picks : List ℕ
  pub picks_are : HasPicks files.old.content (size_of n) name (schedule.Recorded picks)
  pub to : SavesTo n counts capacity image picks files input out output report f
  pub same_file_faults : HasSameFaults files
  pub same_output_faults : HasSameFaults out

-- it came to a checkpoint, whatever became of the snapshot
pub record IsSaveOver (n : Network) (files : Change Held) (input out : Change (List ℕ)) (name : List ℕ) : Type 0 where
  pub saved : Checkpoint
  pub reached : IsReached n files input out name saved

-- the end of the run of a network to a checkpoint
abbrev pub IsSaveOf : Network → (counts : List ℕ) → (capacity : ℕ) → (image : List ℕ) → Change Held → Change (List ℕ) → Change (List ℕ) → (name output : List ℕ) → Verdict → Type 0
IsSaveOf n counts capacity image files input out name output (verdict.Refused refused) = HasNoSchedule files (size_of n) (sched.File name) (verdict.Refused refused) × IsRunNot files input out
IsSaveOf n counts capacity image files input out name output (verdict.Ended f report) = IsSavedTo n counts capacity image files input out name output f report
IsSaveOf n counts capacity image files input out name output verdict.WriteFault =
    (IsSaveSome n files input out name × HasSameFaults files × HasRisen out) ⊎ (IsSaveOver n files input out name × HasSameFaults out × HasFailed files output)
IsSaveOf n counts capacity image files input out name output verdict.NoMemory = IsRunNot files input out ⊎ IsSaveSome n files input out name

-- the files that it changes: that of the snapshot alone, when it came to its checkpoint
pub record KeepsSave (n : Network) (files : Change Held) (input out : Change (List ℕ)) (name output : List ℕ) (v : Verdict) : Type 0 where
  pub kept : KeepsFiles files (output ∷ []) v
  pub over : HasSameContent files ⊎ IsSaveOver n files input out name
