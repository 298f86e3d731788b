-- Lines of refused scans.
use Rattle.std.specs.Prelude.{ℕ, List, codes}
use Rattle.p3l_scan.specs.declared.refusal.ScanRefusal.{ScanRefusal}
use Rattle.p3l_scan.specs.declared.refusal.ScanRefusal.TheVariants as scan

-- scan: NUMBER NAME
abbrev pub scan_line : ScanRefusal → List ℕ
scan_line scan.NotReduce = codes "scan: 120 NotReduce\n"
scan_line scan.BadSegments = codes "scan: 121 BadSegments\n"
