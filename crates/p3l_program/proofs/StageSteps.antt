-- Stages, where the files report what they hold and no reading failed.
use Rattle.std.proofs.Common.{◌≡◌, ℕ, List, [], ◌∷◌, ◌++◌, length, Option, Some, None, refl, sym, ap, ◌∙◌, inl, inr, subst, arith}
use Rattle.p3l_ast.specs.declared.position.Pos.{Pos}
use Rattle.p3l_ast.specs.declared.refusal.Fault.{Fault}
use Rattle.p3l_ast.specs.Tree.{ProgramTree}
use Rattle.p3l_cost.specs.declared.costs.Costs.{Costs}
use Rattle.p3l_cost.specs.declared.refusal.CostRefusal.{CostRefusal}
use Rattle.p3l_cert.specs.declared.cert.Cert.{Cert}
use Rattle.p3l_cert.specs.declared.cert.CertRefusal.{CertRefusal}
use Rattle.p3l_grammar.specs.Grammar.{Spells}
use Rattle.p3l_image.specs.declared.image.Image.{Image}
use Rattle.p3l_image.specs.declared.image.ImageRefusal.{ImageRefusal}
use Rattle.p3l_io.specs.Change.{Change, HasRisen}
use Rattle.p3l_io.specs.Content.{Held}
use Rattle.p3l_load.specs.declared.loaded.LoadRefusal.{LoadRefusal}
use Rattle.p3l_opts.specs.declared.command.Build.{Build}
use Rattle.p3l_report.specs.declared.evidence.Evidence.TheVariants as evidence
use Rattle.p3l_report.specs.declared.verdict.Refusal.{Refusal}
use Rattle.p3l_report.specs.declared.verdict.Refusal.TheVariants as refusal
use Rattle.p3l_report.specs.Verdict.{refusal_status}
use Rattle.p3l_scan.specs.declared.refusal.ScanRefusal.{ScanRefusal}
use Rattle.p3l_scan.specs.declared.refusal.ScanRefusal.TheVariants as scan
use Rattle.p3l_scan.specs.Plan.{IsReduce, IsScannable}
use Rattle.p3l_scan.specs.Planned.{IsUnscannable}
use Rattle.p3l_skel.specs.declared.tree.Tree.{Tree}
use Rattle.std.specs.declared.result.Result.TheVariants.{Ok}
use Rattle.p3l_resume.specs.declared.saved.Saved.{Saved}
use Rattle.p3l_resume.specs.declared.saved.ShotRefusal.{ShotRefusal}
use Rattle.p3l_resume.specs.Saved.{IsSpelling}
use Rattle.p3l_run.specs.Network.{Network, size_of}
use Rattle.p3l_sched.specs.declared.refusal.PickRefusal.{PickRefusal}
use Rattle.p3l_sched.specs.declared.schedule.Schedule.{Schedule}
use Rattle.p3l_sched.specs.Picks.{Reads}
use Rattle.p3l_trace.specs.declared.trace.Traced.{Traced}
use Rattle.p3l_trace.specs.declared.trace.TraceRefusal.TheVariants as trace
use Rattle.p3l_check.specs.Resolving.{ResolvedTree}
use Rattle.p3l_program.specs.Plan.{HasCostText, HasCosts, HasCounts, HasNetwork, HasNoCosts, HasNoScan, HasNoTree, HasScan, HasTooFew, HasTree, HaveTexts, IsAccepted, IsAllotted, IsNetworkOf, IsPriced, Texts}
use Rattle.p3l_program.specs.Certified.{HasCert, HasNoCert, IsCertified}
use Rattle.p3l_program.specs.File.{HasFault, HasProgram, HasText, Holds, IsTooLong}
use Rattle.p3l_program.specs.Image.{HasBytes, IsBrokenImage, IsImage, IsMigratable, IsNoImage, IsRunnableImage, IsUnmigratable}
use Rattle.p3l_program.specs.Origin.{Origin, built, continued, imaged, scanned}
use Rattle.p3l_program.specs.Scheduled.{HasNoPicks, HasPicks}
use Rattle.p3l_program.specs.Snapshot.{HasSnapshot, IsNoSnapshot, IsResumable, IsUnsound, SpellsBrokenImage, SpellsNoImage, SpellsWith}
use Rattle.p3l_program.specs.Stage.{AllPass, IsRefusedBy, Passes, Refuses, Stage, certified, fitting, priced, readable, resolved, scheduled, spelled, text_fitting, text_kept, text_priced, decoded, loaded, migratable, traced, scannable, saved, saved_decoded, saved_loaded, resumable}
use Rattle.p3l_program.specs.TraceFile.{HasNoTrace, HasTrace}

-- a stage that refuses, whatever stages come after it
pub refused_front : (files : Change Held) (stages more : List Stage) (r : Refusal) → IsRefusedBy files stages r → IsRefusedBy files (stages ++ more) r
refused_front files [] more r h = absurd h
refused_front files (stage ∷ stages) more r (inl h) = inl h
refused_front files (stage ∷ stages) more r (inr h) = inr (h.0, refused_front files stages more r h.1)

-- one that refuses after others that pass
pub refused_after : (files : Change Held) (stages more : List Stage) (r : Refusal) → AllPass files stages → IsRefusedBy files more r → IsRefusedBy files (stages ++ more) r
refused_after files [] more r p h = h
refused_after files (stage ∷ stages) more r p h = inr (p.0, refused_after files stages more r p.1 h)

-- stages that pass, one list after the other
pub passed_both : (files : Change Held) (stages more : List Stage) → AllPass files stages → AllPass files more → AllPass files (stages ++ more)
passed_both files [] more p q = q
passed_both files (stage ∷ stages) more p q = (p.0, passed_both files stages more p.1 q)

-- a root that can be scanned is a reduce, and has such segments
can_or_not : (tree : Tree) (segments : ℕ) (why : ScanRefusal) → IsScannable tree segments → IsUnscannable tree segments why → ⊥
can_or_not tree segments scan.NotReduce can never = never (subst IsReduce (sym can.form) tt)
can_or_not tree segments scan.BadSegments can never = never.1 can

-- the texts of what is run
abbrev texts_with : List ℕ → Option (List ℕ) → Texts
texts_with text said = record { text = text; said = said }

module _ (files : Option Held) (held : Held) (known : files ≡ Some held) where
  -- one text is held
  same_text : (name text other : List ℕ) → Holds files name text → Holds files name other → other ≡ text
  same_text name text other a b =
      let c : held name ≡ Some text = subst (λ f. Holds f name text) known a in
      let d : held name ≡ Some other = subst (λ f. Holds f name other) known b in cc

  -- and one of costs
  same_said : (costs text other : Option (List ℕ)) → HasCostText files costs text → HasCostText files costs other → other ≡ text
  same_said None None None a b = refl
  same_said None None (Some other) a b = absurd b
  same_said None (Some text) other a b = absurd a
  same_said (Some name) None other a b = absurd a
  same_said (Some name) (Some text) None a b = absurd b
  same_said (Some name) (Some text) (Some other) a b = ap Some (same_text name text other a.holds b.holds)

  -- a text that is held within the limit is not too long
  pub not_longer : (limit : ℕ) (name text : List ℕ) → HasText files limit name text → IsTooLong files limit name → ⊥
  not_longer limit name text has long =
      let l = subst (λ f. IsTooLong f limit name) known long in
      let c : held name ≡ Some text = subst (λ f. Holds f name text) known has.holds in
      let d = l.holds in
      let same : l.bytes ≡ text = cc in
      let n = ap length same in let w = has.within in let m = l.longer in absurd (omega arith)

  -- a text that spells a program has no first fault
  spelled_once : (name : List ℕ) (program : ProgramTree) (fault : Fault) (pos : Pos) → HasProgram files name program → HasFault files name fault pos → ⊥
  spelled_once name program fault pos has none =
      none.no_program program (subst (λ t. Spells t program) (same_text name none.text has.text none.has.holds has.has.holds) has.spelled)

  -- an accepted program is not refused
  accepted_once : (name : List ℕ) (r : ResolvedTree) (fault : Fault) (pos : Pos) → HasTree files name r → HasNoTree files name fault pos → ⊥
  accepted_once name r fault pos has none =
      none.refused.never r (subst (λ t. IsAccepted t r) (same_text name none.text has.text none.has.holds has.has.holds) has.accepted)

  -- costs that are said are not refused
  priced_once : (program costs : List ℕ) (r : ResolvedTree) (cs : Costs) (why : CostRefusal) → HasCosts files program (Some costs) r cs → HasNoCosts files program costs why → ⊥
  priced_once program costs r cs why has none =
      let said : has.said ≡ Some none.said = same_said (Some costs) (Some none.said) has.said none.says has.says in
      let moved : IsPriced none.text has.said r cs = subst (λ t. IsPriced t has.said r cs) (same_text program none.text has.text none.has.holds has.has.holds) has.priced in
      none.refused.never r cs (subst (λ s. IsPriced none.text s r cs) said moved)

  -- if counts fit, there are enough processors
  fitting_once : (build : Build) (r : ResolvedTree) (cs : Costs) (counts : List ℕ) (need : ℕ) → HasCounts files build r cs counts → HasTooFew files build need → ⊥
  fitting_once build r cs counts need has none =
      let said : has.said ≡ none.said = same_said build.costs none.said has.said none.says has.says in
      let moved : IsAllotted none.text has.said build.processors r cs counts =
      subst (λ t. IsAllotted t has.said build.processors r cs counts) (same_text build.program none.text has.text none.has.holds has.has.holds) has.allotted in
      none.refused.never r cs counts (subst (λ s. IsAllotted none.text s build.processors r cs counts) said moved)

  -- bytes that spell an image are not refused as none
  decoded_once : (name : List ℕ) (i : Image) (why : ImageRefusal) → HasBytes files name (IsImage i) → HasBytes files name (IsNoImage why) → ⊥
  decoded_once name i why has none = none.are.never i (subst (λ b. IsImage i b) (same_text name none.bytes has.bytes none.has.holds has.has.holds) has.are)

  -- nor those of one that can be run as one that can't
  loaded_once : (name : List ℕ) (i : Image) (why : LoadRefusal) → HasBytes files name (IsRunnableImage i) → HasBytes files name (IsBrokenImage why) → ⊥
  loaded_once name i why has none = none.are.never i (subst (λ b. IsRunnableImage i b) (same_text name none.bytes has.bytes none.has.holds has.has.holds) has.are)

  -- nor those of one that can be migrated as one that can't
  migrated_once : (name : List ℕ) (i : Image) (why : LoadRefusal) → HasBytes files name (IsMigratable i) → HasBytes files name (IsUnmigratable why) → ⊥
  migrated_once name i why has none = none.are.never i (subst (λ b. IsMigratable i b) (same_text name none.bytes has.bytes none.has.holds has.has.holds) has.are)

  -- an origin has one list of texts
  same_texts : (origin : Origin) (texts others : Texts) → HaveTexts files origin texts → HaveTexts files origin others → texts ≡ others
  same_texts (built build) texts others a b =
      ap (λ t. texts_with t texts.said) (same_text build.program others.text texts.text b.0.holds a.0.holds)
      ∙ ap (λ s. texts_with others.text s) (same_said build.costs others.said texts.said b.1 a.1)
  same_texts (imaged name) texts others a b =
      ap (λ t. texts_with t texts.said) (same_text name others.text texts.text b.0.holds a.0.holds) ∙ ap (λ s. texts_with others.text s) (a.1 ∙ sym b.1)
  same_texts (scanned name segments capacity) texts others a b =
      ap (λ t. texts_with t texts.said) (same_text name others.text texts.text b.0.holds a.0.holds) ∙ ap (λ s. texts_with others.text s) (a.1 ∙ sym b.1)
  same_texts (continued name) texts others a b =
      ap (λ t. texts_with t texts.said) (same_text name others.text texts.text b.0.holds a.0.holds) ∙ ap (λ s. texts_with others.text s) (a.1 ∙ sym b.1)

  -- bytes that spell a snapshot are not refused as none
  saved_once : (name : List ℕ) (shot : Saved) (why : ShotRefusal) → HasSnapshot files name (IsSpelling shot) → HasSnapshot files name (IsNoSnapshot why) → ⊥
  saved_once name shot why has none = none.are.never shot (subst (λ b. IsSpelling shot b) (same_text name none.bytes has.bytes none.has.holds has.has.holds) has.are)

  -- nor are those of an image that it has
  saved_decoded_once : (name : List ℕ) (i : Image) (why : ImageRefusal) → HasSnapshot files name (SpellsWith (IsImage i)) → HasSnapshot files name (SpellsNoImage why) → ⊥
  saved_decoded_once name i why has none = none.are.never i (subst (λ b. SpellsWith (IsImage i) b) (same_text name none.bytes has.bytes none.has.holds has.has.holds) has.are)

  -- nor those of one that can be run as one that can't
  saved_loaded_once : (name : List ℕ) (i : Image) (why : LoadRefusal) → HasSnapshot files name (SpellsWith (IsRunnableImage i)) → HasSnapshot files name (SpellsBrokenImage why) → ⊥
  saved_loaded_once name i why has none = none.are.never i (subst (λ b. SpellsWith (IsRunnableImage i) b) (same_text name none.bytes has.bytes none.has.holds has.has.holds) has.are)

  -- nor is what was saved, where a run can be in that state
  resumable_once : (name : List ℕ) (i : Image) (shot : Saved) → HasSnapshot files name (IsResumable i shot) → HasSnapshot files name IsUnsound → ⊥
  resumable_once name i shot has none = none.are.never i shot (subst (λ b. IsResumable i shot b) (same_text name none.bytes has.bytes none.has.holds has.has.holds) has.are)

  -- a program that can be scanned is not refused
  scanned_once : (name : List ℕ) (segments : ℕ) (r : ResolvedTree) (why : ScanRefusal) → HasScan files name segments r → HasNoScan files name segments why → ⊥
  scanned_once name segments r why has none =
      let accepted : IsAccepted none.text r = subst (λ t. IsAccepted t r) (same_text name none.text has.has.text none.has.holds has.has.has.holds) has.has.accepted in
      can_or_not r.tree segments why has.can (subst (λ o. IsUnscannable o.tree segments why) (sym (none.refused.only r accepted)) none.refused.refused)

  -- a file that has picks for the network is not refused
  scheduled_once : (origin : Origin) (name : List ℕ) (n : Network) (s : Schedule) (refused : PickRefusal) → HasNetwork files origin n → HasPicks files (size_of n) name s → HasNoPicks files origin name refused → ⊥
  scheduled_once origin name n s refused has reads none =
      let is : IsNetworkOf origin none.texts n = subst (λ t. IsNetworkOf origin t n) (same_texts origin has.texts none.texts has.have none.have) has.is in
      let read : Reads none.picks (size_of n) (Ok reads.picks) = subst (λ t. Reads t (size_of n) (Ok reads.picks)) (same_text name none.picks reads.text none.held.holds reads.has.holds) reads.reads in
      none.refused.never n reads.picks is read

  -- a certificate that holds is not refused
  certified_once : (program : List ℕ) (costs : Option (List ℕ)) (name : List ℕ) (r : ResolvedTree) (cs : Costs) (cert : Cert) (why : CertRefusal) → HasCert files program costs name r cs cert → HasNoCert files program costs name why → ⊥
  certified_once program costs name r cs cert why has none =
      let said : has.said ≡ none.said = same_said costs none.said has.said none.says has.says in
      let text : has.text ≡ none.text = same_text program none.text has.text none.has.holds has.has.holds in
      let written : has.written ≡ none.written = same_text name none.written has.written none.held.holds has.held.holds in
      let one : IsCertified none.text has.said has.written r cs cert = subst (λ t. IsCertified t has.said has.written r cs cert) text has.certified in
      let two : IsCertified none.text none.said has.written r cs cert = subst (λ s. IsCertified none.text s has.written r cs cert) said one in
      none.refused.never r cs cert (subst (λ t. IsCertified none.text none.said t r cs cert) written two)

  -- a file that has a trace is not refused
  traced_once : (name : List ℕ) (t : Traced) (line : ℕ) → HasTrace files name t → HasNoTrace files name line → ⊥
  traced_once name t line has none = none.none.no_trace t has.fits (sym (same_text name none.text has.text none.has.holds has.has.holds) ∙ has.spelled)

module _ (files : Change Held) (held : Held) (known : files.old.content ≡ Some held) (faultless : HasRisen files → ⊥) where
  -- a stage that is passed refuses nothing
  passed_stage : (stage : Stage) (r : Refusal) → Passes files stage → Refuses files stage r → ⊥
  passed_stage (readable limit name) (refusal.FileFault named) p h = faultless h.1.0
  passed_stage (readable limit name) (refusal.FileTooLong named) p h = not_longer files.old.content held known limit name p.0 p.1 h.1
  passed_stage (spelled name) (refusal.Source fault pos) p h = spelled_once files.old.content held known name p.0 fault pos p.1 h
  passed_stage (resolved name) (refusal.Source fault pos) p h = accepted_once files.old.content held known name p.0 fault pos p.1 h
  passed_stage (priced program costs) (refusal.Costs why) p h = priced_once files.old.content held known program costs p.0 p.1 why p.2 h
  passed_stage (fitting build) (refusal.TooFew need) p h = fitting_once files.old.content held known build p.0 p.1 p.2 need p.3 h
  passed_stage (decoded name) (refusal.Evidence (evidence.Image why)) p h = decoded_once files.old.content held known name p.0 why p.1 h
  passed_stage (loaded name) (refusal.Evidence (evidence.Load why)) p h = loaded_once files.old.content held known name p.0 why p.1 h
  passed_stage (migratable name) (refusal.Evidence (evidence.Load why)) p h = migrated_once files.old.content held known name p.0 why p.1 h
  passed_stage (scheduled origin name) (refusal.Schedule why) p h = scheduled_once files.old.content held known origin name p.0 p.1 why p.2 p.3 h
  passed_stage (certified program costs name) (refusal.Evidence (evidence.Cert why)) p h = certified_once files.old.content held known program costs name p.0 p.1 p.2 why p.3 h
  passed_stage (traced name) (refusal.Evidence (evidence.Trace (trace.BadLine line))) p h = traced_once files.old.content held known name p.0 line p.1 h
  passed_stage (text_kept text) (refusal.Source fault pos) p h = h.never p.0 p.1
  passed_stage (text_priced text said) (refusal.Costs why) p h = h.never p.0 p.1 p.2
  passed_stage (text_fitting text said processors) (refusal.TooFew need) p h = h.never p.0 p.1 p.2 p.3
  passed_stage (scannable name segments) (refusal.Scan why) p h = scanned_once files.old.content held known name segments p.0 why p.1 h
  passed_stage (saved name) (refusal.Evidence (evidence.Shot why)) p h = saved_once files.old.content held known name p.0 why p.1 h
  passed_stage (saved_decoded name) (refusal.Evidence (evidence.Image why)) p h = saved_decoded_once files.old.content held known name p.0 why p.1 h
  passed_stage (saved_loaded name) (refusal.Evidence (evidence.Load why)) p h = saved_loaded_once files.old.content held known name p.0 why p.1 h
  passed_stage (resumable name) (refusal.Evidence evidence.NotSound) p h = resumable_once files.old.content held known name p.0 p.1 p.2 h
  passed_stage stage r p h = absurd h

  -- a stage refuses with one status
  refused_stage : (stage : Stage) (r other : Refusal) → Refuses files stage r → Refuses files stage other → refusal_status r ≡ refusal_status other
  refused_stage (readable limit name) (refusal.FileFault a) other h k = absurd (faultless h.1.0)
  refused_stage (readable limit name) (refusal.FileTooLong a) (refusal.FileFault b) h k = absurd (faultless k.1.0)
  refused_stage (readable limit name) (refusal.FileTooLong a) (refusal.FileTooLong b) h k = refl
  refused_stage (spelled name) (refusal.Source fault pos) (refusal.Source other at) h k = refl
  refused_stage (resolved name) (refusal.Source fault pos) (refusal.Source other at) h k = refl
  refused_stage (priced program costs) (refusal.Costs why) (refusal.Costs other) h k = refl
  refused_stage (fitting build) (refusal.TooFew need) (refusal.TooFew other) h k = refl
  refused_stage (decoded name) (refusal.Evidence (evidence.Image why)) (refusal.Evidence other) h k = refl
  refused_stage (loaded name) (refusal.Evidence (evidence.Load why)) (refusal.Evidence other) h k = refl
  refused_stage (migratable name) (refusal.Evidence (evidence.Load why)) (refusal.Evidence other) h k = refl
  refused_stage (scheduled origin name) (refusal.Schedule why) (refusal.Schedule other) h k = refl
  refused_stage (certified program costs name) (refusal.Evidence (evidence.Cert why)) (refusal.Evidence other) h k = refl
  refused_stage (traced name) (refusal.Evidence (evidence.Trace (trace.BadLine line))) (refusal.Evidence other) h k = refl
  refused_stage (text_kept text) (refusal.Source fault pos) (refusal.Source other at) h k = refl
  refused_stage (text_priced text said) (refusal.Costs why) (refusal.Costs other) h k = refl
  refused_stage (text_fitting text said processors) (refusal.TooFew need) (refusal.TooFew other) h k = refl
  refused_stage (scannable name segments) (refusal.Scan why) (refusal.Scan other) h k = refl
  refused_stage (saved name) (refusal.Evidence (evidence.Shot why)) (refusal.Evidence other) h k = refl
  refused_stage (saved_decoded name) (refusal.Evidence (evidence.Image why)) (refusal.Evidence other) h k = refl
  refused_stage (saved_loaded name) (refusal.Evidence (evidence.Load why)) (refusal.Evidence other) h k = refl
  refused_stage (resumable name) (refusal.Evidence evidence.NotSound) (refusal.Evidence other) h k = refl
  refused_stage stage r other h k = absurd (search (h, k))

  -- if all stages pass, none refuses
  pub passed_all : (stages : List Stage) (r : Refusal) → AllPass files stages → IsRefusedBy files stages r → ⊥
  passed_all [] r p h = h
  passed_all (stage ∷ stages) r p (inl h) = passed_stage stage r p.0 h
  passed_all (stage ∷ stages) r p (inr h) = passed_all stages r p.1 h.1

  -- stages refuse with one status
  pub refused_once : (stages : List Stage) (r other : Refusal) → IsRefusedBy files stages r → IsRefusedBy files stages other → refusal_status r ≡ refusal_status other
  refused_once [] r other h k = absurd h
  refused_once (stage ∷ stages) r other (inl h) (inl k) = refused_stage stage r other h k
  refused_once (stage ∷ stages) r other (inl h) (inr k) = absurd (passed_stage stage r k.0 h)
  refused_once (stage ∷ stages) r other (inr h) (inl k) = absurd (passed_stage stage other h.0 k)
  refused_once (stage ∷ stages) r other (inr h) (inr k) = refused_once stages r other h.1 k.1
