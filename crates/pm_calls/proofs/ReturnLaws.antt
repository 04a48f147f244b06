-- Laws of a return immediately after its call.
use Rattle.std.proofs.Common.{◌≡◌, ◌≢◌, ◌<◌, ◌≤◌, inl, inr, ℕ, ◌+◌, ◌-◌, ◌*◌, ◌/◌, ◌%◌, ◌==◌, ◌&&◌, Bool, true, false, cond, nat_lt}
use Rattle.std.proofs.Common.{nat_le, List, length, Option, Some, None, Result, Ok, Err, refl, sym, ap, ◌∙◌, subst, arith, length-set}
use Rattle.std.specs.Prelude.{slice_get}
use Rattle.std.specs.List.{All}
use Rattle.std.proofs.lemmas.Bool.{and_parts, cases_Bool}
use Rattle.std.proofs.lemmas.Bool.Decides.{nat_tests}
use Rattle.pm_words.specs.declared.error.ExecError.{ExecError}
use Rattle.pm_words.specs.declared.error.ExecError.TheVariants.{NoSegment, InvalidMemory, StackOverflow}
use Rattle.pm_words.specs.Words.{IsMemory, copied, with_bytes, with_word, word_at}
use Rattle.pm_words.specs.Stack.{◌>>=◌, demand, is_even, minus}
use Rattle.pm_words.proofs.Laws.{IsMemory-with_bytes, word_at-with_word, word_at-with_word_other}
use Rattle.pm_words.proofs.RangeLaws.{IsMemory-copied}
use Rattle.pm_calls.specs.declared.registers.Registers.{Registers}
use Rattle.pm_calls.specs.declared.frames.Table.{Table}
use Rattle.pm_calls.specs.declared.frames.SegmentPlace.{SegmentPlace}
use Rattle.pm_families.specs.declared.families.Call.{Call}
use Rattle.pm_families.specs.declared.families.Call.TheVariants.{Clp, Cgp, Cbp, Cip, Cxp}
use Rattle.pm_calls.specs.Places.{Parts}
use Rattle.pm_calls.specs.Links.{static_link}
use Rattle.pm_calls.specs.Tables.{attributes}
use Rattle.pm_calls.specs.Calls.{Reached, called, called_at, called_loading, called_slot, called_standing, code_fits, entered, framed, frame_top, here}
use Rattle.pm_calls.specs.Calls.{inside, is_base, kept_below, reach_loading, procedure_called, reach_standing, with_control, with_frame, with_old_base}
use Rattle.pm_calls.specs.Returns.{left_to, returned}
use Rattle.pm_calls.specs.Laws.{GivesBack, IsCode, Reaches, ReachesSlot, ReturnGivesBack}

-- ---- sequences that succeeded

pub passed : {A : Type 0} (b : Bool) (e : ExecError) (rest : Result A ExecError) (y : A) → (demand b e >>= λ _. rest) ≡ Ok y → (b ≡ true) × (rest ≡ Ok y)
passed true e rest y h = (refl, h)
passed false e rest y h = cc

pub bound : {A B : Type 0} (r : Result A ExecError) (rest : A → Result B ExecError) (y : B) → (r >>= rest) ≡ Ok y → (x : A) × (r ≡ Ok x) × (rest x ≡ Ok y)
bound (Ok x) rest y h = (x, refl, h)
bound (Err e) rest y h = cc

held : (b : Bool) (e : ExecError) (x : Unit {0}) → demand b e ≡ Ok x → b ≡ true
held true e x h = refl
held false e x h = cc

-- The code `code` could be loaded: it is not empty, it fits between NP and SP, and the rest of the computation returned
-- `y`.
pub record HasRoom {A : Type 0} (r : Registers) (code : List ℕ) (rest : Result A ExecError) (y : A) : Type 0 where
  pub some : 0 < length code
  pub room : r.np + length code ≤ r.sp
  pub made : rest ≡ Ok y

pub has_room : {A : Type 0} (r : Registers) (code : List ℕ) (rest : Result A ExecError) (y : A) → (code_fits r code >>= λ _. rest) ≡ Ok y
    → HasRoom r code rest y
has_room r code rest y h =
    let k = bound (code_fits r code) (λ _. rest) y h in
    let first = passed (nat_lt 0 (length code)) NoSegment (demand (nat_le (r.np + length code) r.sp) StackOverflow) k.0 k.1 in
    let second = held (nat_le (r.np + length code) r.sp) StackOverflow k.0 first.1 in
    record {
      some = grind (arith, nat_tests, first.0);
      room = grind (arith, nat_tests, second);
      made = k.2;
    }

abbrev pub ok : {A : Type 0} → A → Result A ExecError
ok x = Ok x

pub ok_same : {A : Type 0} (x y : A) → ok x ≡ ok y → x ≡ y
ok_same x y h = cc

-- ---- the control words of a frame

pub size-with_word : (ws : List ℕ) (a w : ℕ) → length (with_word ws a w) ≡ length ws
unfolding with_word
size-with_word ws a w = length-set ws (a / 2) w

-- The memory has, at `f`, control words that save the registers `r` and the SP `above`.
pub record IsControl (m : List ℕ) (f : ℕ) (r : Registers) (above : ℕ) : Type 0 where
  pub mp : word_at m (f + 2) ≡ r.mp
  pub jtab : word_at m (f + 4) ≡ r.jtab
  pub seg : word_at m (f + 6) ≡ r.seg
  pub ipc : word_at m (f + 8) ≡ r.ipc
  pub sp : word_at m (f + 10) ≡ above

-- If a word is written at an address, then it can be read at this address. The next laws state that words at other even
-- addresses are unchanged.
written_at : (m : List ℕ) (a w : ℕ) → length m ≡ 32768 → a < 65536 → word_at (with_word m a w) a ≡ w
written_at m a w size low = word_at-with_word m a a w refl (omega (arith, size, low))

other_at : (m : List ℕ) (a x w : ℕ) → a % 2 ≡ 0 → x % 2 ≡ 0 → x ≢ a → word_at (with_word m a w) x ≡ word_at m x
other_at m a x w even here ne = word_at-with_word_other m a x w even here ne

pub size_kept : (m : List ℕ) (a w : ℕ) → length m ≡ 32768 → length (with_word m a w) ≡ 32768
size_kept m a w h = size-with_word m a w ∙ h

pub control_written : (m : List ℕ) (f static : ℕ) (r : Registers) (above : ℕ) → length m ≡ 32768 → f % 2 ≡ 0 → f + 12 ≤ 65536
    → IsControl (with_control m f static r above) f r above
unfolding with_control
control_written m f static r above size even room =
    let m1 = with_word m f static in
    let s1 = size_kept m f static size in
    let m2 = with_word m1 (f + 2) r.mp in
    let s2 = size_kept m1 (f + 2) r.mp s1 in
    let m3 = with_word m2 (f + 4) r.jtab in
    let s3 = size_kept m2 (f + 4) r.jtab s2 in
    let m4 = with_word m3 (f + 6) r.seg in
    let s4 = size_kept m3 (f + 6) r.seg s3 in
    let m5 = with_word m4 (f + 8) r.ipc in
    let s5 = size_kept m4 (f + 8) r.ipc s4 in
    let e2 : (f + 2) % 2 ≡ 0 = omega arith in
    let e4 : (f + 4) % 2 ≡ 0 = omega arith in
    let e6 : (f + 6) % 2 ≡ 0 = omega arith in
    let e8 : (f + 8) % 2 ≡ 0 = omega arith in
    let e10 : (f + 10) % 2 ≡ 0 = omega arith in
    record {
      mp = other_at m5 (f + 10) (f + 2) above e10 e2 (λ h. omega (arith, h)) ∙ other_at m4 (f + 8) (f + 2) r.ipc e8 e2 (λ h. omega (arith, h))
          ∙ other_at m3 (f + 6) (f + 2) r.seg e6 e2 (λ h. omega (arith, h)) ∙ other_at m2 (f + 4) (f + 2) r.jtab e4 e2 (λ h. omega (arith, h))
          ∙ written_at m1 (f + 2) r.mp s1 (omega arith);
      jtab = other_at m5 (f + 10) (f + 4) above e10 e4 (λ h. omega (arith, h)) ∙ other_at m4 (f + 8) (f + 4) r.ipc e8 e4 (λ h. omega (arith, h))
          ∙ other_at m3 (f + 6) (f + 4) r.seg e6 e4 (λ h. omega (arith, h)) ∙ written_at m2 (f + 4) r.jtab s2 (omega arith);
      seg = other_at m5 (f + 10) (f + 6) above e10 e6 (λ h. omega (arith, h)) ∙ other_at m4 (f + 8) (f + 6) r.ipc e8 e6 (λ h. omega (arith, h))
          ∙ written_at m3 (f + 6) r.seg s3 (omega arith);
      ipc = other_at m5 (f + 10) (f + 8) above e10 e8 (λ h. omega (arith, h)) ∙ written_at m4 (f + 8) r.ipc s4 (omega arith);
      sp = written_at m5 (f + 10) above s5 (omega arith);
    }

-- Writing control words keeps the size of the memory. The next laws: writing the old BASE below the frame does not
-- change the control words, and the old BASE can be read.
pub size_of_control : (m : List ℕ) (f static : ℕ) (r : Registers) (above : ℕ) → length m ≡ 32768 → length (with_control m f static r above) ≡ 32768
unfolding with_control
size_of_control m f static r above size =
    size_kept _ (f + 10) above (size_kept _ (f + 8) r.ipc (size_kept _ (f + 6) r.seg
    (size_kept _ (f + 4) r.jtab (size_kept _ (f + 2) r.mp (size_kept m f static size)))))

pub control_kept : (base : Bool) (m : List ℕ) (f old : ℕ) (r : Registers) (above : ℕ) → f % 2 ≡ 0 → kept_below base ≤ f → IsControl m f r above
    → IsControl (with_old_base base m f old) f r above
control_kept false m f old r above even low h = h
control_kept true m f old r above even low h =
    let e : (f - 2) % 2 ≡ 0 = omega arith in
    record {
      mp = other_at m (f - 2) (f + 2) old e (omega arith) (λ h. omega (arith, h)) ∙ h.mp;
      jtab = other_at m (f - 2) (f + 4) old e (omega arith) (λ h. omega (arith, h)) ∙ h.jtab;
      seg = other_at m (f - 2) (f + 6) old e (omega arith) (λ h. omega (arith, h)) ∙ h.seg;
      ipc = other_at m (f - 2) (f + 8) old e (omega arith) (λ h. omega (arith, h)) ∙ h.ipc;
      sp = other_at m (f - 2) (f + 10) old e (omega arith) (λ h. omega (arith, h)) ∙ h.sp;
    }

base_back : (base : Bool) (m : List ℕ) (r : Registers) (f : ℕ) → length m ≡ 32768 → f < 65536 → kept_below base ≤ f →
    cond base (word_at (with_old_base base m f r.base) (minus f 2)) (cond base f r.base) ≡ r.base
base_back false m r f size low room = refl
base_back true m r f size low room =
    let e : minus f 2 ≡ f - 2 = omega arith in
    rw e (written_at m (f - 2) r.base size (omega arith))

-- ---- a frame that was made

-- The frame at `f` was created: its size and position are valid, and the memory `n` contains it.
pub record IsFramed (m : List ℕ) (s loaded : ℕ) (r : Registers) (base : Bool) (t : Table) (static : ℕ) (n : List ℕ) (inner : Registers) (f : ℕ) : Type 0 where
  pub inside_memory : r.sp + t.parameters ≤ 65504
  pub room : f + 12 + t.parameters ≤ 65504
  pub under : f + 12 + t.parameters ≤ frame_top loaded r.sp t.parameters
  pub below : kept_below base ≤ f
  pub memory : n ≡ with_old_base base (with_frame m f static r t.parameters) f r.base
  pub registers : inner ≡ inside base r s t f

top_inside : (loaded sp parameters : ℕ) → sp + parameters ≤ 65504 → frame_top loaded sp parameters ≤ 65504
top_inside loaded sp parameters h = elim (cases_Bool (nat_lt 0 loaded)) [ inl e ↦ rw e (omega (arith, h)) | inr e ↦ rw e h ]

pub frame_made : (m n : List ℕ) (s loaded static : ℕ) (r inner : Registers) (base : Bool) (t : Table) → framed m s loaded r base t static ≡ Ok (n, inner)
    → (f : ℕ) × IsFramed m s loaded r base t static n inner f
unfolding framed
frame_made m n s loaded static r inner base t h =
    let size = t.locals + t.parameters + 12 in
    let top = frame_top loaded r.sp t.parameters in
    let f = top - size in
    let first = passed (nat_le (r.sp + t.parameters) 65504) InvalidMemory _ _ h in
    let second = passed (nat_le (r.np + kept_below base + size) top) StackOverflow _ _ first.1 in
    let both = ok_same _ _ second.1 in
    let fits : r.sp + t.parameters ≤ 65504 = grind (arith, nat_tests, first.0) in
    let low : top ≤ 65504 = top_inside loaded r.sp t.parameters fits in
    let room : r.np + kept_below base + size ≤ top = grind (arith, nat_tests, second.0) in (
      f,
      record {
        inside_memory = fits;
        room = omega (arith, room, low);
        under = omega (arith, room);
        below = omega (arith, room, low);
        memory = sym (ap (λ (p : List ℕ × Registers). p.0) both);
        registers = sym (ap (λ (p : List ℕ × Registers). p.1) both);
      },
    )

-- ---- a return

-- A return with a result of `words` words succeeded: the frame is valid, and the registers after the return are those
-- that the frame saves.
pub record IsReturn (n : List ℕ) (inner : Registers) (words : ℕ) (base : Bool) (e : Parts) : Type 0 where
  pub even : inner.mp % 2 ≡ 0
  pub room : inner.mp + 12 ≤ 65536
  pub registers : e.registers ≡ left_to n inner inner.mp (word_at n (inner.mp + 10) - 2 * words) base

pub return_read : (c e : Parts) (words : ℕ) (base : Bool) → returned c words base ≡ Ok e → IsReturn c.memory c.registers words base e
unfolding returned
return_read c e words base h =
    let f = c.registers.mp in
    let above = word_at c.memory (f + 10) in
    let first = passed (is_even f && nat_le (f + 12 + 2 * words) 65536) InvalidMemory _ _ h in
    let second = passed (is_even above && nat_le above 65504) InvalidMemory _ _ first.1 in
    let third = passed (nat_le (c.registers.np + 2 * words) above) StackOverflow _ _ second.1 in
    let parts = and_parts (is_even f) (nat_le (f + 12 + 2 * words) 65536) first.0 in
    record {
      even = grind (arith, nat_tests, parts.0);
      room = grind (arith, nat_tests, parts.1);
      registers = sym (ap (λ (p : Parts). p.registers) (ok_same _ _ third.1));
    }

-- If a return leaves a frame that was created at `f`, then it restores the registers that the frame saves.
frame_returns : (m : List ℕ) (s f static words : ℕ) (r : Registers) (base : Bool) (t : Table) (places : List (Option SegmentPlace)) (e : Parts) →
    IsMemory m → r.sp + t.parameters ≤ 65504 → f + 12 + t.parameters ≤ 65504 → kept_below base ≤ f →
    returned (record {
      memory = with_old_base base (with_frame m f static r t.parameters) f r.base;
      registers = inside base r s t f;
      places = places;
    }) words base ≡ Ok e →
    e.registers ≡ record r { sp = r.sp + t.parameters - 2 * words }
frame_returns m s f static words r base t places e h fits room below done =
    let n = with_old_base base (with_frame m f static r t.parameters) f r.base in
    let back = return_read (record { memory = n; registers = inside base r s t f; places = places }) e words base done in
    let moved = copied m r.sp (f + 12) t.parameters in
    let size : length moved ≡ 32768 = (IsMemory-copied m r.sp (f + 12) t.parameters h (omega (arith, fits)) (omega (arith, room))).size in
    let control = control_written moved f static r (r.sp + t.parameters) size back.even back.room in
    let kept = control_kept base (with_frame m f static r t.parameters) f r.base r (r.sp + t.parameters) back.even below control in
    let frame_size : length (with_frame m f static r t.parameters) ≡ 32768 = size_of_control moved f static r (r.sp + t.parameters) size in
    let old = base_back base (with_frame m f static r t.parameters) r f frame_size (omega (arith, room)) below in
    back.registers ∙ rw (kept.mp, kept.jtab, kept.seg, kept.ipc, kept.sp, old) refl

made_returns : (m n : List ℕ) (s loaded static words f : ℕ) (r inner : Registers) (base : Bool) (t : Table) (places : List (Option SegmentPlace)) (e : Parts) →
    IsMemory m → IsFramed m s loaded r base t static n inner f →
    returned (record { memory = n; registers = inner; places = places }) words base ≡ Ok e →
    e.registers ≡ record r { sp = r.sp + t.parameters - 2 * words }
made_returns m n s loaded static words f r inner base t places e h x done =
    frame_returns m s f static words r base t places e h x.inside_memory x.room x.below (rw (x.memory, x.registers) at done)

framed_returns : (m n : List ℕ) (s loaded static words : ℕ) (r inner : Registers) (base : Bool) (t : Table) (places : List (Option SegmentPlace)) (e : Parts) →
    IsMemory m → framed m s loaded r base t static ≡ Ok (n, inner) →
    returned (record { memory = n; registers = inner; places = places }) words base ≡ Ok e →
    e.registers ≡ record r { sp = r.sp + t.parameters - 2 * words }
framed_returns m n s loaded static words r inner base t places e h made done =
    let x = frame_made m n s loaded static r inner base t made in
    made_returns m n s loaded static words x.0 r inner base t places e h x.1 done

-- ---- a call in a segment that was reached

-- If a call succeeds, then the SP before it is within the stack, because creating the frame checks this.
pub low_before : (c d : Parts) (call : Call) (at : Reached) → called_at c call at ≡ Ok d → c.registers.sp ≤ 65504
unfolding called_at entered
low_before c d call at made =
    let x = bound (entered at.memory at.place at.loaded c.registers call) _ _ made in
    let t = bound (attributes at.memory at.place (procedure_called call)) _ _ x.1 in
    let l = bound (static_link call at.memory c.registers t.0.level) _ _ t.2 in
    let f = frame_made at.memory x.0.0 at.place at.loaded l.0 c.registers x.0.1 (is_base call t.0.level) t.0 l.2 in
    let fits = f.1.inside_memory in
    omega (arith, fits)

at_gives_back : (c d e : Parts) (call : Call) (code : Option (List ℕ)) (at : Reached) (words : ℕ) (base : Bool) → Reaches c call code at → IsMemory at.memory →
    called_at c call at ≡ Ok d → returned d words base ≡ Ok e → GivesBack c call code words base e.registers
unfolding called_at entered
at_gives_back c d e call code at words base is h made done =
    let x = bound (entered at.memory at.place at.loaded c.registers call) _ _ made in
    let t = bound (attributes at.memory at.place (procedure_called call)) _ _ x.1 in
    let l = bound (static_link call at.memory c.registers t.0.level) _ _ t.2 in
    let same = ok_same _ _ x.2 in
    record {
      table = t.0;
      at = at;
      reached = is;
      found = t.1;
      registers = λ kind. framed_returns at.memory x.0.0 at.place at.loaded l.0 words c.registers x.0.1 (is_base call t.0.level) t.0 at.places e h l.2
          (rw (sym same, kind) at done);
    }

pub standing_memory : (c : Parts) (n : ℕ) (p : SegmentPlace) (at : Reached) → reach_standing c n p ≡ Ok at → at.memory ≡ c.memory
unfolding reach_standing
standing_memory c n p at h = elim (cases_Bool (p.place == c.registers.seg)) [
  | inl e ↦ sym (ap (λ (x : Reached). x.memory) (ok_same (here c) at (rw e at h)))
  | inr e ↦
      let k = passed (nat_lt p.count 65535) StackOverflow _ at (rw e at h) in
      sym (ap (λ (x : Reached). x.memory) (ok_same _ at k.1))
]

pub loading_memory : (c : Parts) (n : ℕ) (code : List ℕ) (at : Reached) → IsMemory c.memory → All (λ b. b < 256) code → c.registers.sp ≤ 65504
    → reach_loading c n code ≡ Ok at → IsMemory at.memory
unfolding reach_loading
loading_memory c n code at m bytes low h =
    let has = has_room c.registers code _ at h in
    let room = has.room in
    let is : with_bytes c.memory (c.registers.sp - length code) code ≡ at.memory = ap (λ (x : Reached). x.memory) (ok_same _ at has.made) in
    subst IsMemory is (IsMemory-with_bytes c.memory code (c.registers.sp - length code) m (omega (arith, room, low)) bytes)

slot_gives_back : (c d e : Parts) (call : Call) (n : ℕ) (code : Option (List ℕ)) (slot : Option (Option SegmentPlace)) (words : ℕ) (base : Bool) →
    ((at : Reached) → ReachesSlot c n code slot at → Reaches c call code at) →
    IsMemory c.memory → IsCode code →
    called_slot c call n code slot ≡ Ok d → returned d words base ≡ Ok e → GivesBack c call code words base e.registers
unfolding called_standing called_loading
slot_gives_back c d e call n code None words base k m bytes made done = absurd (cc)
slot_gives_back c d e call n code (Some (Some p)) words base k m bytes made done =
    let x = bound (reach_standing c n p) _ _ made in
    at_gives_back c d e call code x.0 words base (k x.0 x.1) (rw (standing_memory c n p x.0 x.1) m) x.2 done
slot_gives_back c d e call n None (Some None) words base k m bytes made done = absurd (cc)
slot_gives_back c d e call n (Some code) (Some None) words base k m bytes made done =
    let x = bound (reach_loading c n code) _ _ made in
    at_gives_back c d e call (Some code) x.0 words base (k x.0 x.1) (loading_memory c n code x.0 m bytes (low_before c d call x.0 x.2) x.1) x.2 done

pub return_gives_back : ReturnGivesBack
unfolding called
return_gives_back c d e (Clp p) code words base m bytes made done = at_gives_back c d e (Clp p) code (here c) words base refl m made done
return_gives_back c d e (Cgp p) code words base m bytes made done = at_gives_back c d e (Cgp p) code (here c) words base refl m made done
return_gives_back c d e (Cbp p) code words base m bytes made done = at_gives_back c d e (Cbp p) code (here c) words base refl m made done
return_gives_back c d e (Cip p) code words base m bytes made done = at_gives_back c d e (Cip p) code (here c) words base refl m made done
return_gives_back c d e (Cxp n p) code words base m bytes made done =
    slot_gives_back c d e (Cxp n p) n code (slice_get c.places n) words base (λ at r. r) m bytes made done
