-- Lines of refused evidence: evidence: NUMBER NAME, and the values of the refusal.
use Rattle.std.specs.Prelude.{ℕ, List, ◌++◌, codes}
use Rattle.std.specs.Fmt.{decimal}
use Rattle.p3l_cert.specs.declared.cert.CertRefusal.{CertRefusal}
use Rattle.p3l_cert.specs.declared.cert.CertRefusal.TheVariants as cert
use Rattle.p3l_cert.specs.declared.cert.Claim.{Claim}
use Rattle.p3l_cert.specs.declared.cert.Claim.TheVariants as claims
use Rattle.p3l_image.specs.declared.image.ImageRefusal.{ImageRefusal}
use Rattle.p3l_image.specs.declared.image.ImageRefusal.TheVariants as image
use Rattle.p3l_load.specs.declared.loaded.LoadRefusal.{LoadRefusal}
use Rattle.p3l_load.specs.declared.loaded.LoadRefusal.TheVariants as load
use Rattle.p3l_resume.specs.declared.saved.ShotRefusal.{ShotRefusal}
use Rattle.p3l_resume.specs.declared.saved.ShotRefusal.TheVariants as shot
use Rattle.p3l_trace.specs.declared.trace.TraceRefusal.{TraceRefusal}
use Rattle.p3l_trace.specs.declared.trace.TraceRefusal.TheVariants as trace
use Rattle.p3l_report.specs.declared.evidence.Evidence.{Evidence}
use Rattle.p3l_report.specs.declared.evidence.Evidence.TheVariants as evidence
use Rattle.p3l_report.specs.Line.{no_memory_line}

-- the bytes of a claim's name
abbrev pub claim_name : Claim → List ℕ
claim_name claims.Counts = codes "Counts"
claim_name claims.Service = codes "Service"
claim_name claims.Used = codes "Used"
claim_name claims.Fits = codes "Fits"
claim_name claims.Least = codes "Least"

-- of a certificate
abbrev pub cert_line : CertRefusal → List ℕ
cert_line (cert.RowWrong row kept found) =
    codes "evidence: 70 RowWrong " ++ (decimal row ++ (codes ": " ++ (decimal kept ++ (codes " is not " ++ (decimal found ++ codes "\n")))))
cert_line (cert.RowMissing row node bound cap) =
    codes "evidence: 71 RowMissing " ++ (decimal row ++ (codes ": " ++ (decimal node ++ (codes " " ++ (decimal bound ++ (codes " " ++ (decimal cap ++ codes "\n")))))))
cert_line (cert.ClaimWrong claim) = codes "evidence: 72 ClaimWrong " ++ (claim_name claim ++ codes "\n")
cert_line (cert.BadText line) = codes "evidence: 73 BadText " ++ (decimal line ++ codes "\n")
cert_line cert.NoMemory = no_memory_line

-- of bytes that are no image
abbrev pub image_line : ImageRefusal → List ℕ
image_line image.BadMagic = codes "evidence: 80 BadMagic\n"
image_line (image.Version version) = codes "evidence: 81 Version " ++ (decimal version ++ codes "\n")
image_line (image.Short place) = codes "evidence: 82 Short " ++ (decimal place ++ codes "\n")
image_line (image.BadField place) = codes "evidence: 83 BadField " ++ (decimal place ++ codes "\n")
image_line (image.TrailingBytes place) = codes "evidence: 84 TrailingBytes " ++ (decimal place ++ codes "\n")
image_line image.NoMemory = no_memory_line

-- of an image that can't be run
abbrev pub load_line : LoadRefusal → List ℕ
load_line (load.CodeUnsafe code) = codes "evidence: 90 CodeUnsafe " ++ (decimal code ++ codes "\n")
load_line load.NotLinked = codes "evidence: 91 NotLinked\n"
load_line load.TreeWrong = codes "evidence: 92 TreeWrong\n"
load_line load.NoMemory = no_memory_line

-- of a text that is no trace
abbrev pub trace_line : TraceRefusal → List ℕ
trace_line (trace.BadLine line) = codes "evidence: 110 BadLine " ++ (decimal line ++ codes "\n")
trace_line trace.NoMemory = no_memory_line

-- of a trace of which a line differs
abbrev pub differs_line : ℕ → List ℕ
differs_line line = codes "evidence: 111 Differs " ++ (decimal line ++ codes "\n")

-- of bytes that are no snapshot
abbrev pub shot_line : ShotRefusal → List ℕ
shot_line (shot.BadShot place) = codes "evidence: 130 BadShot " ++ (decimal place ++ codes "\n")
shot_line shot.NoMemory = no_memory_line

abbrev pub evidence_line : Evidence → List ℕ
evidence_line (evidence.Cert refusal) = cert_line refusal
evidence_line (evidence.Image refusal) = image_line refusal
evidence_line (evidence.Load refusal) = load_line refusal
evidence_line (evidence.Trace refusal) = trace_line refusal
evidence_line (evidence.Shot refusal) = shot_line refusal
evidence_line evidence.NotSound = codes "evidence: 131 NotSound\n"
