-- An answer in one number of 64 bits, as the C names give it.
use Rattle.std.specs.Prelude.{ℕ, ◌+◌, ◌*◌, ◌<◌, Ok, Err}
use Rattle.answers.specs.CleanAnswers.{CleanAnswer}
use Rattle.answers.specs.Answers.{OverlapAnswer}
use Rattle.answers.specs.Answers.{verdict_number}

-- The number, 0 or the refusal, in bits 0 to 7, the middle in bits 8 to 23, the rest in bits 24 to 63.
pub record Fields : Type 0 where
  pub number : ℕ
  pub middle : ℕ
  pub rest : ℕ

abbrev pub fields : ℕ → ℕ → ℕ → Fields
fields n m r = record { number = n; middle = m; rest = r }

unfoldable pub packed : ℕ → ℕ → ℕ → ℕ
packed n m r = n + 256 * m + 16777216 * r

-- Each field fits its bits.
pub record FieldsFit (number middle rest : ℕ) : Type 0 where
  pub number_fits : number < 256
  pub middle-fits : middle < 65536
  pub rest-fits : rest < 1099511627776

-- The lengths of the output and of the report, or the refusal and its place.
unfoldable pub clean_fields : CleanAnswer → Fields
clean_fields (Ok l) = fields 0 l.output l.report
clean_fields (Err f) = fields f.number 0 f.place

-- The verdict and the entries spent, or the refusal and its place.
unfoldable pub overlap_fields : OverlapAnswer → Fields
overlap_fields (Ok c) = fields 0 (verdict_number c.verdict) c.spent
overlap_fields (Err f) = fields f.number 0 f.place

abbrev pub pack_fields : Fields → ℕ
pack_fields f = packed f.number f.middle f.rest

abbrev pub Fit : Fields → Type 0
Fit f = FieldsFit f.number f.middle f.rest

abbrev pub pack_clean : CleanAnswer → ℕ
pack_clean r = pack_fields (clean_fields r)

abbrev pub pack_overlap : OverlapAnswer → ℕ
pack_overlap r = pack_fields (overlap_fields r)

abbrev pub CleanFits : CleanAnswer → Type 0
CleanFits r = Fit (clean_fields r)
