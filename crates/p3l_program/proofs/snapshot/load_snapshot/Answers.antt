use Rattle.std.proofs.Common.{◌≡◌, ℕ, List, false, true, subst}
use Rattle.p3l_io.specs.Change.{change}
use Rattle.p3l_units.specs.Table.{leaf}
use Rattle.p3l_program.specs.LoadImage.{IsUnloadable, LoadsBytes}
use Rattle.p3l_program.proofs.FileSteps.{unchanged_faults}
use Rattle.p3l_program.proofs.SnapshotSteps.{loads_whole, not_loaded_with, not_sound, ready_whole, snapshot_network}
use Rattle.p3l_program.proofs.snapshot.load_snapshot.Goals as goal

pub returns-in-Err-load_bytes-clause-refused : goal.returns-in-Err-load_bytes-clause-refused
returns-in-Err-load_bytes-clause-refused g c =
    let files = change (g.F.Files.observed c.args.files.now) (g.F.Files.observed c.read_snapshot.new.files) in
    let saved = c.in-Ok.saved in
    let verdict = c.in-Err-load_bytes.verdict in
    not_loaded_with c.args.name saved files c.in-Ok.ensures.read (unchanged_faults c.in-Ok.ensures.unchanged) verdict
    (subst (λ (b : List ℕ). IsUnloadable b verdict) c.as_slice.ensures c.in-Err-load_bytes.ensures.refused)

pub returns-then-not-sound-clause-refused : goal.returns-then-not-sound-clause-refused
returns-then-not-sound-clause-refused g c =
    let files = change (g.F.Files.observed c.args.files.now) (g.F.Files.observed c.read_snapshot.new.files) in
    let saved = c.in-Ok.saved in
    let loaded = c.in-Ok-load_bytes.network in
    let loads = subst (λ (b : List ℕ). LoadsBytes b loaded) c.as_slice.ensures c.in-Ok-load_bytes.ensures.loaded in
    let own = leaf (record { tree = loaded.tree; codes = loaded.codes }) in
    let no : c.in-Ok-is_sound.sound ≡ false = c.if-not-sound.true in
    not_sound c.args.name saved files c.in-Ok.ensures.read loaded loads (unchanged_faults c.in-Ok.ensures.unchanged)
    (λ sound. let yes : c.in-Ok-is_sound.sound ≡ true = (c.in-Ok-is_sound.ensures own).1 sound in absurd cc)

pub returns-clause-network : goal.returns-clause-network
returns-clause-network g c =
    let files = change (g.F.Files.observed c.args.files.now) (g.F.Files.observed c.read_snapshot.new.files) in
    let saved = c.in-Ok.saved in
    let loaded = c.in-Ok-load_bytes.network in
    let loads = subst (λ (b : List ℕ). LoadsBytes b loaded) c.as_slice.ensures c.in-Ok-load_bytes.ensures.loaded in
    let own = leaf (record { tree = loaded.tree; codes = loaded.codes }) in
    let sound = (c.in-Ok-is_sound.ensures own).0 c.if-not-sound.false in
    snapshot_network c.args.name (record { network = loaded; shot = saved.shot }) files.old.content (loads_whole c.args.name saved files c.in-Ok.ensures.read loaded loads sound)

pub returns-clause-ready : goal.returns-clause-ready
returns-clause-ready g c =
    let files = change (g.F.Files.observed c.args.files.now) (g.F.Files.observed c.read_snapshot.new.files) in
    let saved = c.in-Ok.saved in
    let loaded = c.in-Ok-load_bytes.network in
    let loads = subst (λ (b : List ℕ). LoadsBytes b loaded) c.as_slice.ensures c.in-Ok-load_bytes.ensures.loaded in
    let own = leaf (record { tree = loaded.tree; codes = loaded.codes }) in
    ready_whole c.args.name saved files c.in-Ok.ensures.read loaded loads ((c.in-Ok-is_sound.ensures own).0 c.if-not-sound.false)
