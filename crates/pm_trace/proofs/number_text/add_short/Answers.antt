use Rattle.std.proofs.Common.{arith, ◌∙◌, sym}
use Rattle.pm_trace.proofs.ShortText.{byte_text, display_pair_text, display_text, named, named_pair, number_byte_text, plain_text, signed_byte_text, word_text}
use Rattle.pm_trace.proofs.number_text.add_short.Goals as goal

pub returns-in_ok-add_plain-in-Plain : goal.returns-in_ok-add_plain-in-Plain
returns-in_ok-add_plain-in-Plain c =
    record {
      text = named _ _ _ _ _ c.in_ok-add_plain-in-Plain.ensures.text
          (plain_text _ _ c.requires.inside (sym c.form_at.ensures.form ∙ c.in-Plain.is));
    }

pub returns-in_ok-add_byte-in-Ub : goal.returns-in_ok-add_byte-in-Ub
returns-in_ok-add_byte-in-Ub c =
    record {
      text = named _ _ _ _ _ c.in_ok-add_byte-in-Ub.ensures.text
          (byte_text _ _ (omega arith) (sym c.form_at.ensures.form ∙ c.in-Ub.is));
    }

pub returns-in_ok-add_byte-in-Db : goal.returns-in_ok-add_byte-in-Db
returns-in_ok-add_byte-in-Db c =
    record {
      text = named _ _ _ _ _ c.in_ok-add_byte-in-Db.ensures.text
          (display_text _ _ (omega arith) (sym c.form_at.ensures.form ∙ c.in-Db.is));
    }

pub returns-in_ok-add_word-in-W : goal.returns-in_ok-add_word-in-W
returns-in_ok-add_word-in-W c =
    record {
      text = named _ _ _ _ _ c.in_ok-add_word-in-W.ensures.text
          (word_text _ _ (omega arith) (sym c.form_at.ensures.form ∙ c.in-W.is));
    }

pub returns-in_ok-add_signed-in-Sb : goal.returns-in_ok-add_signed-in-Sb
returns-in_ok-add_signed-in-Sb c =
    record {
      text = named _ _ _ _ _ c.in_ok-add_signed-in-Sb.ensures.text
          (signed_byte_text _ _ (omega arith) (sym c.form_at.ensures.form ∙ c.in-Sb.is));
    }

pub returns-in_ok-add_byte-in-B : goal.returns-in_ok-add_byte-in-B
returns-in_ok-add_byte-in-B c =
    record {
      text = named _ _ _ _ _ c.in_ok-add_byte-in-B.ensures.text
          (number_byte_text _ _ (omega arith) (omega arith) (sym c.form_at.ensures.form ∙ c.in-B.is));
    }

pub returns-in_ok-add_pair-in-DbB : goal.returns-in_ok-add_pair-in-DbB
returns-in_ok-add_pair-in-DbB c =
    record {
      text = named_pair _ _ _ _ _ _ c.in_ok-add_pair-in-DbB.ensures.text
          (display_pair_text _ _ (omega arith) (omega arith) (sym c.form_at.ensures.form ∙ c.in-DbB.is));
    }
