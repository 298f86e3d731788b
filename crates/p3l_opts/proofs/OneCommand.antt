-- Words spell at most one command.
use Rattle.std.proofs.Common.{◌≡◌, ℕ, ◌<◌, ◌^◌, Option, None, Some, List, drop, get_or, sym, refl, ap, ◌∙◌, arith}
use Rattle.std.proofs.lemmas.Fmt.{decimal_injective}
use Rattle.std.specs.Fmt.{decimal}
use Rattle.clap.specs.Words.{Row, Text}
use Rattle.p3l_opts.specs.declared.command.Build.{Build}
use Rattle.p3l_opts.specs.declared.command.Command.{Command}
use Rattle.p3l_opts.specs.declared.command.Command.TheVariants as command
use Rattle.p3l_opts.specs.declared.command.Exported.{Exported}
use Rattle.p3l_opts.specs.declared.command.Sched.{Sched}
use Rattle.p3l_opts.specs.declared.command.Sched.TheVariants as sched
use Rattle.p3l_opts.specs.declared.word.Range.{Range}
use Rattle.p3l_opts.specs.declared.word.TheConstants.{ADVISED, CAPACITY, ITEMS, PROCESSORS, SEGMENTS}
use Rattle.p3l_opts.specs.App.{rows}
use Rattle.p3l_opts.specs.Command.{HasBuild, HasChoice, HasCount, HasExported, HasNumber, HasSchedule, HasValues, IsCount, SpellsSchedule, verb_of}
use Rattle.p3l_opts.specs.Table.{Entry}
use Rattle.p3l_opts.specs.Laws.{SpellsOneAtMost}

-- a text is that of one count
counted_once : (most : ℕ) (text : Text) (m n : ℕ) → most < 2 ^ 32 → IsCount most text m → IsCount most text n → m ≡ n
counted_once most text m n low p q =
    let a = p.most_is in
    let b = q.most_is in
    decimal_injective m n (omega arith) (omega arith) (sym p.spelled ∙ q.spelled)

one_count : (range : Range) (text : Option Text) (m n : ℕ) → range.most < 2 ^ 32 → HasCount range text m → HasCount range text n → m ≡ n
one_count range None m n low p q = (let same : Some m ≡ Some n = sym p ∙ q in cc)
one_count range (Some text) m n low p q = counted_once range.most text m n low p q

one_choice : (text : Option Text) (m n : Option ℕ) → HasChoice text m → HasChoice text n → m ≡ n
one_choice None m n p q = p ∙ sym q
one_choice (Some text) None n p q = absurd p
one_choice (Some text) (Some m) None p q = absurd q
one_choice (Some text) (Some m) (Some n) p q = ap Some (counted_once CAPACITY.most text m n (omega arith) p q)

-- and of one schedule
one_spelled : (text : Text) (s t : Sched) → SpellsSchedule text s → SpellsSchedule text t → s ≡ t
one_spelled text sched.RoundRobin sched.RoundRobin p q = refl
one_spelled text sched.RoundRobin (sched.Seeded n) p q = absurd (let z = ap (λ (w : Text). get_or w 0 0) (sym p ∙ q.0) in omega arith)
one_spelled text sched.RoundRobin (sched.File name) p q = absurd (let z = ap (λ (w : Text). get_or w 0 0) (sym p ∙ q) in omega arith)
one_spelled text (sched.Seeded m) sched.RoundRobin p q = absurd (let z = ap (λ (w : Text). get_or w 0 0) (sym p.0 ∙ q) in omega arith)
one_spelled text (sched.Seeded m) (sched.Seeded n) p q =
    let same : decimal m ≡ decimal n = ap (λ (w : Text). drop 5 w) (sym p.0 ∙ q.0) in
    ap sched.Seeded (decimal_injective m n (omega (arith, p.1)) (omega (arith, q.1)) same)
one_spelled text (sched.Seeded m) (sched.File name) p q = absurd (let z = ap (λ (w : Text). get_or w 0 0) (sym p.0 ∙ q) in omega arith)
one_spelled text (sched.File name) sched.RoundRobin p q = absurd (let z = ap (λ (w : Text). get_or w 0 0) (sym p ∙ q) in omega arith)
one_spelled text (sched.File name) (sched.Seeded n) p q = absurd (let z = ap (λ (w : Text). get_or w 0 0) (sym p ∙ q.0) in omega arith)
one_spelled text (sched.File name) (sched.File other) p q =
    let same : name ≡ other = ap (λ (w : Text). drop 5 w) (sym p ∙ q) in
    ap sched.File same

one_schedule : (text : Option Text) (s t : Sched) → HasSchedule text s → HasSchedule text t → s ≡ t
one_schedule None s t p q = p ∙ sym q
one_schedule (Some text) s t p q = one_spelled text s t p q

-- and of the picks of one file
one_recorded : (text : Option Text) (p q : Text) → HasSchedule text (sched.File p) → HasSchedule text (sched.File q) → p ≡ q
one_recorded text p q hp hq = (let same : sched.File p ≡ sched.File q = one_schedule text _ _ hp hq in cc)

one_number : (text : Option Text) (m n : ℕ) → HasNumber text m → HasNumber text n → m ≡ n
one_number text m n p q =
    let texts : Some (decimal m) ≡ Some (decimal n) = sym p.spelled ∙ q.spelled in
    let same : decimal m ≡ decimal n = cc in
    let a = p.most_is in
    let b = q.most_is in
    decimal_injective m n (omega arith) (omega arith) same

-- a name that was found
one_name : (text : Option Text) (m n : Text) → text ≡ Some m → text ≡ Some n → m ≡ n
one_name text m n p q = (let same : Some m ≡ Some n = sym p ∙ q in cc)

-- one way to build
one_build : (range : Range) (found : List Row) (capacity : Option Text) (a b : Build) → range.most < 2 ^ 32 → HasBuild range found capacity a → HasBuild range found capacity b → a ≡ b
one_build range found capacity a b low p q = λ i. record {
  program = one_name _ _ _ p.priced.program_is q.priced.program_is i;
  processors = one_count range _ _ _ low p.priced.processors_are q.priced.processors_are i;
  costs = (p.priced.costs_are ∙ sym q.priced.costs_are) i;
  capacity = one_count CAPACITY _ _ _ (omega arith) p.capacity_is q.capacity_is i;
}

one_exported : (found : List Row) (a b : Exported) → HasExported found a → HasExported found b → a ≡ b
one_exported found a b p q = λ i. record {
  program = one_name _ _ _ p.priced.program_is q.priced.program_is i;
  processors = one_count PROCESSORS _ _ _ (omega arith) p.priced.processors_are q.priced.processors_are i;
  costs = (p.priced.costs_are ∙ sym q.priced.costs_are) i;
  capacity = one_choice _ _ _ p.capacity_is q.capacity_is i;
}

built : {found : List Row} {capacity : Option Text} {a b : Build} → HasBuild PROCESSORS found capacity a → HasBuild PROCESSORS found capacity b → a ≡ b
built p q = one_build PROCESSORS _ _ _ _ (omega arith) p q

-- the rows found are the values of at most one command of a verb
one_command : (found : List Row) (a b : Command) → verb_of a ≡ verb_of b → HasValues found a → HasValues found b → a ≡ b
one_command found (command.Check p) (command.Check q) v ha hb = ap command.Check (one_name _ _ _ ha hb)
one_command found (command.Fmt p) (command.Fmt q) v ha hb = ap command.Fmt (one_name _ _ _ ha hb)
one_command found (command.Explain x c) (command.Explain y d) v ha hb = λ i. command.Explain (built ha.0 hb.0 i) ((ha.1 ∙ sym hb.1) i)
one_command found (command.Advise x r) (command.Advise y r') v ha hb = λ i. command.Advise (one_build ADVISED _ _ x y (omega arith) ha.0 hb.0 i) ((ha.1 ∙ sym hb.1) i)
one_command found (command.Compile x o) (command.Compile y p) v ha hb = λ i. command.Compile (built ha.0 hb.0 i) (one_name _ _ _ ha.1 hb.1 i)
one_command found (command.Run x s t r) (command.Run y s' t' r') v ha hb = λ i.
    command.Run (built ha.0 hb.0 i) (one_schedule _ _ _ ha.1.picks hb.1.picks i) ((ha.1.traced ∙ sym hb.1.traced) i) ((ha.1.reported ∙ sym hb.1.reported) i)
one_command found (command.Exec x s t r) (command.Exec y s' t' r') v ha hb = λ i.
    command.Exec (one_name _ _ _ ha.0 hb.0 i) (one_schedule _ _ _ ha.1.picks hb.1.picks i) ((ha.1.traced ∙ sym hb.1.traced) i) ((ha.1.reported ∙ sym hb.1.reported) i)
one_command found (command.Migrate x o) (command.Migrate y p) v ha hb = λ i. command.Migrate (one_name _ _ _ ha.0 hb.0 i) (one_name _ _ _ ha.1 hb.1 i)
one_command found (command.Export x o) (command.Export y p) v ha hb = λ i. command.Export (one_exported _ x y ha.0 hb.0 i) (one_name _ _ _ ha.1 hb.1 i)
one_command found (command.Graph x) (command.Graph y) v ha hb = ap command.Graph (built ha hb)
one_command found (command.VerifyCert x c k) (command.VerifyCert y d l) v ha hb = λ i. command.VerifyCert (one_name _ _ _ ha.0 hb.0 i) (one_name _ _ _ ha.1 hb.1 i) ((ha.2 ∙ sym hb.2) i)
one_command found (command.CheckTrace x t) (command.CheckTrace y u) v ha hb = λ i. command.CheckTrace (built ha.0 hb.0 i) (one_name _ _ _ ha.1 hb.1 i)
one_command found (command.Gen m p k s t) (command.Gen n q l s' t') v ha hb = λ i.
    command.Gen (one_number _ _ _ ha.number_is hb.number_is i) (one_count PROCESSORS _ _ _ (omega arith) ha.processors_are hb.processors_are i) (one_count ITEMS _ _ _ (omega arith) ha.items_are hb.items_are i)
    (one_schedule _ _ _ ha.picks hb.picks i) ((ha.saved ∙ sym hb.saved) i)
one_command found (command.Rewrite p n c) (command.Rewrite q m d) v ha hb = λ i.
    command.Rewrite (one_name _ _ _ ha.program_is hb.program_is i) (one_count PROCESSORS _ _ _ (omega arith) ha.processors_are hb.processors_are i) ((ha.costs_are ∙ sym hb.costs_are) i)
one_command found (command.Profile p) (command.Profile q) v ha hb = ap command.Profile (one_name _ _ _ ha hb)
one_command found (command.Time x p) (command.Time y q) v ha hb = λ i. command.Time (built ha.0 hb.0 i) ((ha.1 ∙ sym hb.1) i)
one_command found (command.Scan p m s c r) (command.Scan q n s' c' r') v ha hb = λ i.
    command.Scan (one_name _ _ _ ha.program_is hb.program_is i) (one_count SEGMENTS _ _ _ (omega arith) ha.segments_are hb.segments_are i) (one_schedule _ _ _ ha.picks hb.picks i)
    (one_count CAPACITY _ _ _ (omega arith) ha.capacity_is hb.capacity_is i) ((ha.reported ∙ sym hb.reported) i)
one_command found (command.Save x p o) (command.Save y q o') v ha hb = λ i.
    command.Save (built ha.build_is hb.build_is i) (one_recorded _ _ _ ha.recorded hb.recorded i) (one_name _ _ _ ha.output_is hb.output_is i)
one_command found (command.Resume p s r) (command.Resume q s' r') v ha hb = λ i.
    command.Resume (one_name _ _ _ ha.snapshot_is hb.snapshot_is i) (one_schedule _ _ _ ha.picks hb.picks i) ((ha.reported ∙ sym hb.reported) i)
one_command found a b v ha hb = cc

pub spells_one_at_most : SpellsOneAtMost
spells_one_at_most words a b sa sb =
    let named : Some sa.entry ≡ Some sb.entry = sym sa.named ∙ sb.named in
    let entry : sa.entry ≡ sb.entry = cc in
    let verb : verb_of a ≡ verb_of b = sa.verb_is ∙ ap (λ (e : Entry). e.0) entry ∙ sym sb.verb_is in
    let values : HasValues (rows sa.entry words) b = rw entry sb.values in
    one_command (rows sa.entry words) a b verb sa.values values
