use Rattle.std.proofs.Common.{refl}
use Rattle.p3l_io.specs.Change.{change}
use Rattle.p3l_program.specs.Profile.{BeginsProfile, EndsProfile}
use Rattle.p3l_program.specs.Stage.{program_stages}
use Rattle.p3l_program.specs.World.{world}
use Rattle.p3l_program.proofs.FileSteps.{unchanged_faults}
use Rattle.p3l_program.proofs.ProfileSteps.{profile_expected, tree_codes, tree_lawful}
use Rattle.p3l_program.proofs.TextSteps.{not_loaded}
use Rattle.p3l_program.proofs.profile.profile.Goals as goal

pub profile_tree-requires-clause-lawful : goal.profile_tree-requires-clause-lawful
profile_tree-requires-clause-lawful g c = let loaded = c.in-Ok.ensures.loaded in tree_lawful loaded.r c.in-Ok.field-0 loaded.is.comes.compiled

pub profile_tree-requires-clause-codes : goal.profile_tree-requires-clause-codes
profile_tree-requires-clause-codes g c = let loaded = c.in-Ok.ensures.loaded in tree_codes loaded.r c.in-Ok.field-0 loaded.is.comes.compiled

pub returns-in-Ok-clause-expected : goal.returns-in-Ok-clause-expected
returns-in-Ok-clause-expected g c =
    let loaded = c.in-Ok.ensures.loaded in
    let files = change (g.F.Files.observed c.args.files.now) (g.F.Files.observed c.load_program.new.files) in
    let input = change (g.S.Source.observed c.args.input.now) (g.S.Source.observed c.profile_tree.new.input) in
    let out = change (g.K.Sink.observed c.args.out.now) (g.K.Sink.observed c.profile_tree.new.out) in
    profile_expected files input out c.args.name loaded.r c.in-Ok.field-0 loaded.is (unchanged_faults c.in-Ok.ensures.unchanged) c.profile_tree.result c.profile_tree.ensures.profiled

pub returns-in-Err-clause-expected : goal.returns-in-Err-clause-expected
returns-in-Err-clause-expected g c =
    let files = change (g.F.Files.observed c.args.files.now) (g.F.Files.observed c.load_program.new.files) in
    let input = change (g.S.Source.observed c.args.input.now) (g.S.Source.observed c.args.input.now) in
    let out = change (g.K.Sink.observed c.args.out.now) (g.K.Sink.observed c.args.out.now) in
    let name = c.args.name in
    let w = world files input out in
    not_loaded w (program_stages name) (EndsProfile w name) (BeginsProfile w name) ⊥ c.in-Err.verdict (record { same_content = refl; same_faults = refl }) (record { same_content = refl; same_faults = refl }) c.in-Err.ensures.refused

pub returns-in-Ok-clause-wants : goal.returns-in-Ok-clause-wants
returns-in-Ok-clause-wants g c = c.profile_tree.ensures.wants g.F.Files.may_want
