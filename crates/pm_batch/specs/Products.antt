-- The product of a job that converts bytes to bytes.
use Rattle.std.specs.Prelude.{ℕ, List, Option}
use Rattle.pm_batch.specs.declared.batch.Made.{Made}
use Rattle.pm_batch.specs.declared.batch.Made.TheVariants as made
use Rattle.pm_batch.specs.declared.refusal.Refusal.{Refusal}

-- The product of a job. `Written` has bytes that are written. `Image` has the image of a volume that is saved.
-- `Refused` has a refusal.
pub data Product : Type 0 where
  Written : List ℕ → Product
  Image : List ℕ → Product
  Refused : Refusal → Product
  -- a report on an image or an assembler source text, which is written, and the refusal, if the image or the text has
  -- faults
  Judged : List ℕ → Option Refusal → Product
  -- A text that is written, and the image of a volume that is saved.
  Saved : List ℕ → List ℕ → Product

-- Returns the product that the value of the code means. Texts for a terminal are omitted.
abbrev pub product_of : Made → Product
product_of (made.Bytes bytes) = Written bytes.items
product_of (made.Image image) = Image image.items
product_of (made.Refused refusal line) = Refused refusal
product_of (made.Judged text refusal line) = Judged text.items refusal
product_of (made.Saved text image) = Saved text.items image.items
