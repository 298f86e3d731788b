-- From what the reader and the checker of certificates say to the stages of a certificate.
use Rattle.std.proofs.Common.{◌≡◌, ℕ, List, [], ◌++◌, Option, Some, None, true, Result, IfErr, IfOk, refl, sym, ◌∙◌, inl, inr, subst, append-nil}
use Rattle.std.specs.Prelude.{Bool, false, ◌↔◌, IsTrue}
use Rattle.std.specs.declared.result.Result.TheVariants.{Ok, Err}
use Rattle.p3l_format.specs.declared.fault.FieldFault.{FieldFault}
use Rattle.p3l_format.specs.Format.{read_all}
use Rattle.p3l_format.specs.Line.{line_number}
use Rattle.p3l_format.specs.laws.Formats.{one_spelling}
use Rattle.p3l_io.specs.Change.{Change, HasFailed, HasSameFaults}
use Rattle.p3l_io.specs.Content.{Held}
use Rattle.p3l_base.specs.Memory.{Refused}
use Rattle.p3l_skel.specs.Counts.{HasLawfulCounts}
use Rattle.p3l_skel.specs.declared.tree.Tree.{Tree}
use Rattle.p3l_cost.specs.declared.costs.Costs.{Costs}
use Rattle.p3l_model.specs.Optimal.{IsOptimal}
use Rattle.p3l_cert.specs.declared.cert.Cert.{Cert}
use Rattle.p3l_cert.specs.declared.cert.CertRefusal.{CertRefusal}
use Rattle.p3l_cert.specs.declared.cert.CertRefusal.TheVariants as refusals
use Rattle.p3l_cert.specs.Checker.{CertHolds, IsAnswer}
use Rattle.p3l_cert.specs.Text.{cert_format}
use Rattle.p3l_cert.specs.Answers.{Answers, ReportsFirst, answer_of}
use Rattle.p3l_cert.specs.laws.Text.{lawful_cert}
use Rattle.p3l_report.specs.declared.evidence.Evidence.TheVariants as evidence
use Rattle.p3l_report.specs.declared.verdict.Refusal.{Refusal}
use Rattle.p3l_report.specs.declared.verdict.Refusal.TheVariants as refusal
use Rattle.p3l_report.specs.declared.verdict.Verdict.{Verdict}
use Rattle.p3l_report.specs.declared.verdict.Verdict.TheVariants as verdict
use Rattle.p3l_report.specs.Verdict.{verdict_of}
use Rattle.p3l_check.specs.Resolving.{ResolvedTree}
use Rattle.p3l_program.specs.declared.plan.Accepted.{Accepted}
use Rattle.p3l_program.specs.declared.file.FileRefusal.{FileRefusal}
use Rattle.p3l_program.specs.declared.file.FileRefusal.TheVariants as file
use Rattle.p3l_program.specs.Plan.{AreSaid, ComesTo, HasCostText, IsPriced}
use Rattle.p3l_program.specs.Certified.{IsCertOf, IsCertified, IsNoCert, IsNoText, IsRefuted, SpellsCert, cert_limit}
use Rattle.p3l_program.specs.File.{HasText, text_limit}
use Rattle.p3l_program.specs.Load.{IsNotLoaded, IsUnreadable, file_verdict}
use Rattle.p3l_program.specs.LoadCert.{IsCertRefused, IsCertless, LoadsCert, LoadsVerified}
use Rattle.p3l_program.specs.Stage.{AllPass, IsRefusedBy, Stage, cert_stages, cost_stages, program_stages, verify_stages}
use Rattle.p3l_program.specs.Verify.{IsVerified, holds_line}
use Rattle.p3l_program.specs.Wants.{Wants}
use Rattle.p3l_program.proofs.LoadSteps.{costs_pass, priced_here, program_passes}
use Rattle.p3l_program.proofs.OnceSteps.{said_alike}
use Rattle.p3l_program.proofs.StageSteps.{passed_both, refused_after}

-- the reader's refusal of a text is a line
reports_line : (text : List ℕ) (read : Result Cert FieldFault) (r : CertRefusal) → Err r ≡ answer_of text read → (line : ℕ) × (r ≡ refusals.BadText line)
reports_line text (Ok cert) r is = absurd cc
reports_line text (Err fault) r is = (line_number text fault.left, (let z = is in cc))

-- a text that the reader refuses spells no certificate
no_text : (tree : Tree) (costs : Costs) (text : List ℕ) (r : CertRefusal) → ((cert : Cert) → cert_format.fits cert ≡ true → text ≡ cert_format.spell cert → Err r ≡ answer_of text (Ok cert)) → IsNoText text r →
    IsRefuted tree costs text r
no_text tree costs text r only is = record { why = inl is; never = λ cert here. absurd (let z = only cert here.spelled.fits here.spelled.text_is in cc) }

pub cert_unread : (tree : Tree) (costs : Costs) (text : List ℕ) (r : CertRefusal) → ((cert : Cert) → cert_format.fits cert ≡ true → text ≡ cert_format.spell cert → Answers text (Err r) (Ok cert)) →
    ReportsFirst text (Err r) → Answers text (Err r) (read_all cert_format text) → IsCertRefused tree costs text r
cert_unread tree costs text (refusals.BadText line) only first exact = no_text tree costs text (refusals.BadText line) only first
cert_unread tree costs text refusals.NoMemory only first exact = exact
cert_unread tree costs text (refusals.RowWrong row kept found) only first exact = absurd (let z = (reports_line text (read_all cert_format text) (refusals.RowWrong row kept found) exact).1 in cc)
cert_unread tree costs text (refusals.RowMissing row node bound cap) only first exact = absurd (let z = (reports_line text (read_all cert_format text) (refusals.RowMissing row node bound cap) exact).1 in cc)
cert_unread tree costs text (refusals.ClaimWrong claim) only first exact = absurd (let z = (reports_line text (read_all cert_format text) (refusals.ClaimWrong claim) exact).1 in cc)

-- a text spells one certificate
pub spelled_alike : (text : List ℕ) (cert other : Cert) → SpellsCert text cert → SpellsCert text other → other ≡ cert
spelled_alike text cert other a b =
    (one_spelling cert_format lawful_cert other cert [] b.fits a.fits (append-nil (cert_format.spell other) ∙ (sym b.text_is ∙ a.text_is))).0

module _ (tree : Tree) (costs : Costs) (text : List ℕ) (cert : Cert) (spelled : SpellsCert text cert) where
  -- one that holds is not refused by the checker
  holds_never : (r : CertRefusal) → (CertHolds tree costs cert → r ≡ refusals.NoMemory) → (r ≡ refusals.NoMemory → ⊥) → (other : Cert) → IsCertOf tree costs text other → ⊥
  holds_never r accepts some other is = some (accepts (subst (λ c. CertHolds tree costs c) (spelled_alike text cert other spelled is.spelled) is.holds))

  -- the checker says that memory ran out only when a request was refused, lawful counts or not
  out_of_memory : (lawful : Bool) → (IsTrue lawful ↔ HasLawfulCounts tree cert.counts.list) → IsAnswer {A = Unit {0}} tree costs cert (Err refusals.NoMemory) → Refused
  out_of_memory true is answer = answer.lawful (is.0 refl)
  out_of_memory false is answer = answer.unlawful (λ has. absurd (let z = is.1 has in cc))

  -- one that the checker refuses doesn't hold
  pub cert_fails : (lawful : Bool) → (IsTrue lawful ↔ HasLawfulCounts tree cert.counts.list) → (r : CertRefusal) → IsAnswer {A = Unit {0}} tree costs cert (Err r) → (CertHolds tree costs cert → r ≡ refusals.NoMemory) → IsCertRefused tree costs text r
  cert_fails lawful is (refusals.RowWrong row kept found) answer accepts = record {
    why = inr (record { cert = cert; spelled = spelled; answer = answer });
    never = holds_never (refusals.RowWrong row kept found) accepts (λ e. absurd cc);
  }
  cert_fails lawful is (refusals.RowMissing row node bound cap) answer accepts = record {
    why = inr (record { cert = cert; spelled = spelled; answer = answer });
    never = holds_never (refusals.RowMissing row node bound cap) accepts (λ e. absurd cc);
  }
  cert_fails lawful is (refusals.ClaimWrong claim) answer accepts = record {
    why = inr (record { cert = cert; spelled = spelled; answer = answer });
    never = holds_never (refusals.ClaimWrong claim) accepts (λ e. absurd cc);
  }
  cert_fails lawful is (refusals.BadText line) answer accepts = record {
    why = inr (record { cert = cert; spelled = spelled; answer = answer });
    never = holds_never (refusals.BadText line) accepts (λ e. absurd cc);
  }
  cert_fails lawful is refusals.NoMemory answer accepts = out_of_memory lawful is answer

-- a file that gives no text
pub cert_unreadable : (files : Change Held) (name : List ℕ) (tree : Tree) (costs : Costs) (r : FileRefusal) → IsUnreadable files cert_limit name r → IsCertless files name tree costs (file_verdict r)
cert_unreadable files name tree costs (file.Fault named) h = inl (h, subst (λ k. HasFailed files k) (sym h.0) h.1)
cert_unreadable files name tree costs (file.TooLong named) h = inl ((h.0, h.1), h.2)
cert_unreadable files name tree costs file.NoMemory h = h

-- a text that is refused
pub cert_unheld : (files : Change Held) (name : List ℕ) (tree : Tree) (costs : Costs) (written : List ℕ) (r : CertRefusal) → HasText files.old.content cert_limit name written → IsCertRefused tree costs written r → HasSameFaults files →
    IsCertless files name tree costs (verdict_of (refusal.Evidence (evidence.Cert r)))
cert_unheld files name tree costs written (refusals.RowWrong row kept found) held refuted same_faults =
    inr (record { written = written; held = held; no_cert = record { refuted = refuted; named = λ e. absurd cc }; same_faults = same_faults })
cert_unheld files name tree costs written (refusals.RowMissing row node bound cap) held refuted same_faults =
    inr (record { written = written; held = held; no_cert = record { refuted = refuted; named = λ e. absurd cc }; same_faults = same_faults })
cert_unheld files name tree costs written (refusals.ClaimWrong claim) held refuted same_faults =
    inr (record { written = written; held = held; no_cert = record { refuted = refuted; named = λ e. absurd cc }; same_faults = same_faults })
cert_unheld files name tree costs written (refusals.BadText line) held refuted same_faults =
    inr (record { written = written; held = held; no_cert = record { refuted = refuted; named = λ e. absurd cc }; same_faults = same_faults })
cert_unheld files name tree costs written refusals.NoMemory held refuted same_faults = same_faults

module _ (files : Change Held) (name : List ℕ) (costs : Option (List ℕ)) (cert_file : List ℕ) (r : ResolvedTree) (program : Accepted) (text : List ℕ) (has : HasText files.old.content text_limit name text) (comes : ComesTo text r program) (said : Option (List ℕ)) (says : HasCostText files.old.content costs said) (cs : Costs) (are : AreSaid program.tree said cs) where
  front_refused : (more : List Stage) (refused : Refusal) → IsRefusedBy files more refused → IsRefusedBy files (program_stages name ++ (cost_stages name costs ++ more)) refused
  front_refused more refused by =
      refused_after files (program_stages name) (cost_stages name costs ++ more) refused (program_passes files name r program text has comes)
      (refused_after files (cost_stages name costs) more refused (costs_pass files name r program text has comes costs said cs says are) by)

  -- the tree and the costs of the texts are one
  cert_here : (written : List ℕ) (other : ResolvedTree) (others : Costs) (cert : Cert) → IsCertified text said written other others cert → IsCertOf program.tree cs written cert
  cert_here written other others cert p =
      let tree : other ≡ r = comes.only other p.priced.accepted in
      let theirs : AreSaid r.tree said others = subst (λ t. AreSaid t.tree said others) tree p.priced.costs in
      let ours : AreSaid r.tree said cs = subst (λ t. AreSaid t said cs) comes.compiled.tree_is are in
      let there : IsCertOf r.tree others written cert = subst (λ t. IsCertOf t.tree others written cert) tree p.is in
      let here : IsCertOf r.tree cs written cert = subst (λ c. IsCertOf r.tree c written cert) (said_alike r.tree said others cs theirs ours) there in
      subst (λ t. IsCertOf t cs written cert) (sym comes.compiled.tree_is) here

  certless_refused : (refused : Refusal) → IsCertless files cert_file program.tree cs (verdict.Refused refused) → IsNotLoaded files (verify_stages name cert_file costs) (verdict.Refused refused)
  certless_refused refused (inl h) = (front_refused (cert_stages name costs cert_file) refused (inl h.0), h.1)
  certless_refused (refusal.Evidence (evidence.Cert why)) (inr h) = (
    front_refused (cert_stages name costs cert_file) (refusal.Evidence (evidence.Cert why)) (inr (
      (h.written, h.held),
      inl (record {
        text = text;
        has = has;
        said = said;
        says = says;
        written = h.written;
        held = h.held;
        refused = record {
          r = r;
          cs = cs;
          priced = priced_here files name r program text has comes said cs are;
          no_cert = subst (λ t. IsNoCert t cs h.written why) comes.compiled.tree_is h.no_cert;
          never = λ other others cert p. h.no_cert.refuted.never cert (cert_here h.written other others cert p);
        };
      }),
    )),
    h.same_faults,
  )
  certless_refused refused (inr h) = absurd (h.no_cert)

  -- if no certificate is loaded, its stages don't pass
  pub certless : (v : Verdict) → IsCertless files cert_file program.tree cs v → IsNotLoaded files (verify_stages name cert_file costs) v
  certless (verdict.Refused refused) h = certless_refused refused h
  certless verdict.NoMemory h = h
  certless (verdict.Ended finish stats) h = absurd h
  certless verdict.WriteFault h = absurd h

  -- a certificate that is loaded is the program's
  pub verified_here : (cert : Cert) → LoadsCert files.old.content cert_file program.tree cs cert → LoadsVerified files.old.content name costs cert_file cert
  verified_here cert loads = record {
    r = r;
    cs = cs;
    has = record {
      text = text;
      has = has;
      said = said;
      says = says;
      written = loads.written;
      held = loads.held;
      certified = record {
        priced = priced_here files name r program text has comes said cs are;
        is = subst (λ t. IsCertOf t cs loads.written cert) comes.compiled.tree_is loads.accepts.is;
      };
    };
    optimal = subst (λ t. IsOptimal t cs cert.processors cert.counts.list) comes.compiled.tree_is loads.accepts.optimal;
  }

  -- and so of what the loading answers
  pub certless_result : (result : Result Cert Verdict) → IfErr result (IsCertless files cert_file program.tree cs) → IfErr result (IsNotLoaded files (verify_stages name cert_file costs))
  certless_result (Ok cert) h = tt
  certless_result (Err v) h = certless v h

  pub verified_result : (result : Result Cert Verdict) → IfOk result (LoadsCert files.old.content cert_file program.tree cs) → IfOk result (LoadsVerified files.old.content name costs cert_file)
  verified_result (Ok cert) h = verified_here cert h
  verified_result (Err v) h = tt

-- if a certificate is loaded that holds, all stages pass
module _ (files : Change Held) (name : List ℕ) (costs : Option (List ℕ)) (cert_file : List ℕ) (cert : Cert) (loads : LoadsVerified files.old.content name costs cert_file cert) where
  said_pass : (c said : Option (List ℕ)) → HasCostText files.old.content c said → IsPriced loads.has.text said loads.r loads.cs → AllPass files (cost_stages name c)
  said_pass None said says priced = tt
  said_pass (Some c) None says priced = absurd says
  said_pass (Some c) (Some t) says priced = ((t, says), ((loads.r, loads.cs, record { text = loads.has.text; has = loads.has.has; said = Some t; says = says; priced = priced }), tt))

  pub verified_passes : AllPass files (verify_stages name cert_file costs)
  verified_passes =
      let h = loads.has in
      passed_both files (program_stages name) (cost_stages name costs ++ cert_stages name costs cert_file)
      ((h.text, h.has), ((loads.r, record { text = h.text; has = h.has; accepted = h.certified.priced.accepted }), tt))
      (passed_both files (cost_stages name costs) (cert_stages name costs cert_file) (said_pass costs h.said h.says h.certified.priced)
      ((h.written, h.held), ((loads.r, loads.cs, cert, h), tt)))

  -- and its line is expected
  pub verified : (text : List ℕ) → text ≡ holds_line cert.processors cert.used cert.service → IsVerified files.old.content name costs cert_file text
  verified text is = record { r = loads.r; cs = loads.cs; cert = cert; has = loads.has; optimal = loads.optimal; text_is = is }

-- a certificate's refusal says that memory ran out only when a request was refused
pub cert_wants : (outside : Bool) (tree : Tree) (costs : Costs) (text : List ℕ) (r : CertRefusal) → IsCertRefused tree costs text r → Wants outside (verdict_of (refusal.Evidence (evidence.Cert r)))
cert_wants outside tree costs text (refusals.RowWrong row kept found) h = tt
cert_wants outside tree costs text (refusals.RowMissing row node bound cap) h = tt
cert_wants outside tree costs text (refusals.ClaimWrong claim) h = tt
cert_wants outside tree costs text (refusals.BadText line) h = tt
cert_wants outside tree costs text refusals.NoMemory h = inl h
