-- The lines of the numbers of processors at which the best service time falls.
use Rattle.std.specs.Prelude.{ℕ, ◌+◌, ◌-◌, ◌*◌, ◌/◌, ◌%◌, ◌==◌, ◌++◌, ◌||◌, Bool, List, [], codes, nat_lt, if◌then◌else◌}
use Rattle.std.specs.Fmt.{decimal}
use Rattle.std.specs.List.{flat_map, range_with_len}
use Rattle.p3l_alloc.specs.declared.allocation.Best.{Best}

-- true exactly if the best service time falls at a number of processors: no fewer fit, or with one fewer it is later
abbrev pub falls : (ℕ → Best) → (least p : ℕ) → Bool
falls best least p = (p == least) || nat_lt (best p).service (best (p - 1)).service

-- hundredths of the speed-up from a first service time to another, rounded down; 1 where no time is taken
abbrev pub hundredths : (first time : ℕ) → ℕ
hundredths first time = if time == 0 then 100 else 100 * first / time

-- processors P used U service T speed-up W.DD, with hundredths of the speed-up
abbrev pub fall_words : (p : ℕ) → Best → (faster : ℕ) → List ℕ
fall_words p best faster =
    codes "processors " ++ (decimal p ++ (codes " used " ++ (decimal best.used ++ (codes " service " ++ (decimal best.service
    ++ (codes " speed-up " ++ (decimal (faster / 100) ++ (codes "." ++ (decimal (faster / 10 % 10) ++ (decimal (faster % 10) ++ codes "\n"))))))))))

-- the line of a number of processors, where `first` is the service time with as few as fit
abbrev pub fall_line : (first p : ℕ) → Best → List ℕ
fall_line first p best = fall_words p best (hundredths first best.service)

-- the line of a number, if it has one
abbrev pub line_at : (ℕ → Best) → (least p : ℕ) → List ℕ
line_at best least p = if falls best least p then fall_line (best least).service p (best p) else []

-- the line of a number with which the service time is less than before
abbrev pub change_line : (first before p : ℕ) → Best → List ℕ
change_line first before p best = if nat_lt best.service before then fall_line first p best else []

-- the lines of the numbers from the least to the most at which the best service time falls
abbrev pub fall_lines : (ℕ → Best) → (least most : ℕ) → List ℕ
fall_lines best least most = flat_map (line_at best least) (range_with_len least (most + 1 - least))
