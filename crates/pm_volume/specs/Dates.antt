-- Dates as stored in a directory, each in a word: the month in bits 0 to 3, the day in bits 4 to 8, the year in bits 9
-- to 15.
use Rattle.std.specs.Prelude.{ℕ, Bool, ◌+◌, ◌*◌, ◌/◌, ◌%◌, ◌&&◌, nat_le}
use Rattle.pm_volume.specs.declared.date.Date.{Date}

-- Is true if `year` is 0 to 127, `month` is 1 to 12, and `day` is 1 to 31. The length of the month is not checked.
abbrev pub is_date : ℕ → ℕ → ℕ → Bool
is_date year month day = nat_le year 127 && nat_le 1 month && nat_le month 12 && nat_le 1 day && nat_le day 31

-- The word in which a directory stores the date `year`, `month`, `day`.
abbrev pub date_word : ℕ → ℕ → ℕ → ℕ
date_word year month day = 512 * year + 16 * day + month

-- The year, month and day that `word` contains. They need not be a valid date.
abbrev pub date_of : ℕ → Date
date_of word = record { year = word / 512; month = word % 16; day = word / 16 % 32 }
