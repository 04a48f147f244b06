use Rattle.std.proofs.Common.{◌≡◌, ◌-◌, ◌<◌, ◌≤◌, ◌∙◌, inl, inr, length, get_or, sym, rules, arith}
use Rattle.pm_words.proofs.Laws.{byte_at-with_bytes, byte_at-with_bytes_other}
use Rattle.pm_access.proofs.loaded.Loaded.byte.Goals as goal

pub returns-then-address-self : goal.returns-then-address-self
returns-then-address-self c =
    let l = c.args.self in
    let code = l.code.now in
    record {
      byte = c.byte.ensures.byte
          ∙ sym (byte_at-with_bytes_other _ code l.start c.args.address c.word.ensures.memory l.inside l.bytes (inl (omega arith)));
    }

pub returns-in-Some : goal.returns-in-Some
returns-in-Some c =
    let l = c.args.self in
    let code = l.code.now in
    let room : c.args.address - l.start < length code = search rules in
    let read : c.in-Some.byte.now ≡ get_or code (c.args.address - l.start) 0 = search rules in
    record {
      byte = read
          ∙ sym (byte_at-with_bytes _ code l.start c.args.address c.word.ensures.memory l.inside l.bytes (omega arith) (omega arith));
    }

pub returns-in-None : goal.returns-in-None
returns-in-None c =
    let l = c.args.self in
    let code = l.code.now in
    let past : length code ≤ c.args.address - l.start = search rules in
    record {
      byte = c.byte-in-None.ensures.byte
          ∙ sym (byte_at-with_bytes_other _ code l.start c.args.address c.word.ensures.memory l.inside l.bytes (inr (omega arith)));
    }
