use Rattle.p3l_format.specs.laws.Formats.{one_spelling}
use Rattle.p3l_cert.specs.Text.{cert_format}
use Rattle.p3l_cert.specs.laws.Text.{lawful_cert}
use Rattle.p3l_cert.proofs.text.text_begins_no_other.Goals as goal

pub returns : goal.returns
returns c = λ v w more. one_spelling cert_format lawful_cert v w more
