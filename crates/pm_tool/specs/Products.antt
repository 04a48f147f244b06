-- The defined output of a job that converts bytes to bytes, for each kind of its product.
use Rattle.std.specs.Prelude.{ℕ, List, [], Option, Some, None}
use Rattle.pm_batch.specs.Products.{Product, Written, Image, Refused, Judged, Saved}
use Rattle.pm_tool.specs.declared.outcome.Exit.TheVariants as exits
use Rattle.pm_tool.specs.Outcomes.{Said, judged, no_others, refused}

-- The defined output of a job that succeeds. The bytes `written` are written, `image` is saved if it is given, and the
-- part `unread` of the input is not read.
abbrev pub ended : List ℕ → Option (List ℕ) → List ℕ → Said
ended written image unread =
    record {
      written = written;
      exit = exits.Ended;
      message = [];
      image = image;
      others = no_others;
      printer = [];
      unread = unread;
      stopped = None;
    }

-- The defined output of a job with this product that leaves the part `unread` of its input unread.
abbrev pub said_product : Product → List ℕ → Said
said_product (Written bytes) unread = ended bytes None unread
said_product (Image image) unread = ended [] (Some image) unread
said_product (Refused refusal) unread = refused refusal unread
said_product (Judged text refusal) unread = judged text refusal unread
said_product (Saved text image) unread = ended text (Some image) unread
