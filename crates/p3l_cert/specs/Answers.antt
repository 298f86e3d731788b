-- Refusals of texts that are not certificates.
use Rattle.std.specs.Prelude.{◌≡◌, ℕ, List, Result, Ok, Err, ⊤}
use Rattle.p3l_cert.specs.declared.cert.Cert.{Cert}
use Rattle.p3l_cert.specs.declared.cert.CertRefusal.{CertRefusal}
use Rattle.p3l_cert.specs.declared.cert.CertRefusal.TheVariants as refusals
use Rattle.p3l_format.specs.declared.fault.FieldFault.{FieldFault}
use Rattle.p3l_format.specs.Line.{line_number}
use Rattle.p3l_format.specs.FirstLine.{IsFirstBadLine}
use Rattle.p3l_cert.specs.Text.{cert_format}
use Rattle.p3l_base.specs.Memory.{Refused}

-- the answer of reading, with the line of its fault
abbrev pub answer_of : List ℕ → Result Cert FieldFault → Result Cert CertRefusal
answer_of text (Ok cert) = Ok cert
answer_of text (Err fault) = Err (refusals.BadText (line_number text fault.left))

-- a call answered what reading gives, unless out of memory
abbrev pub Answers : List ℕ → Result Cert CertRefusal → Result Cert FieldFault → Type 0
Answers text (Err refusals.NoMemory) read = Refused
Answers text answer read = answer ≡ answer_of text read

-- a line that is reported is the first that isn't of a certificate's form
abbrev pub ReportsFirst : List ℕ → Result Cert CertRefusal → Type 0
ReportsFirst text (Err (refusals.BadText line)) = IsFirstBadLine cert_format text line
ReportsFirst text answer = ⊤
