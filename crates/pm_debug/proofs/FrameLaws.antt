-- Lemmas about frames with the positions to which they return, frame by frame.
use Rattle.std.proofs.Common.{◌≡◌, ◌∙◌, ◌+◌, ◌<◌, ap, sym, refl, ℕ, List, [], ◌∷◌, ◌++◌, length, drop, get_or, Option, Some, None}
use Rattle.std.proofs.Common.{add-one, append_assoc, append-nil}
use Rattle.std.proofs.Math.Seq.{drop-cons}
use Rattle.pm_debug.specs.declared.frames.Frame.{Frame}
use Rattle.pm_debug.specs.Frames.{frame_at, frames_at, onto_frames}

-- The addresses from index `i` on are address `i`, followed by the addresses from `i + 1` on.
pub address_left : (addresses : List ℕ) (i : ℕ) → i < length addresses → drop i addresses ≡ get_or addresses i 0 ∷ drop (i + 1) addresses
address_left addresses i h = rw add-one (drop-cons addresses i 0 h)

-- The frames `front` followed by the given frames, or `None` if no list is given.
abbrev pub behind_frames : List Frame → Option (List Frame) → Option (List Frame)
behind_frames front (Some frames) = Some (front ++ frames)
behind_frames front None = None

pub behind_frames_none : (frames : Option (List Frame)) → frames ≡ behind_frames [] frames
behind_frames_none (Some frames) = refl
behind_frames_none None = refl

behind_one : (front : List Frame) (f : Frame) (rest : Option (List Frame))
    → behind_frames front (onto_frames (Some f) rest) ≡ behind_frames (front ++ f ∷ []) rest
behind_one front f (Some frames) = ap (λ xs. Some xs) (sym (append_assoc front (f ∷ []) frames))
behind_one front f None = refl

frames_first : (m : List ℕ) (a : ℕ) (rest : List ℕ) → frames_at m (a ∷ rest) ≡ onto_frames (frame_at m a) (frames_at m rest)
unfolding frames_at
frames_first m a rest = refl

module _ (m : List ℕ) (whole : Option (List Frame)) (front : List Frame) (addresses : List ℕ) (h : whole ≡ behind_frames front (frames_at m addresses)) where
  module _ (a : ℕ) (rest : List ℕ) (e : addresses ≡ a ∷ rest) where
    going_on : whole ≡ behind_frames front (onto_frames (frame_at m a) (frames_at m rest))
    going_on = h ∙ ap (λ left. behind_frames front (frames_at m left)) e ∙ ap (behind_frames front) (frames_first m a rest)

    -- If the next address has the frame `f`, then the frames up to here are followed by `f` and the remaining ones.
    pub frames_more : (f : Frame) → Some f ≡ frame_at m a → whole ≡ behind_frames (front ++ f ∷ []) (frames_at m rest)
    frames_more f is = going_on ∙ ap (λ x. behind_frames front (onto_frames x (frames_at m rest))) (sym is) ∙ behind_one front f (frames_at m rest)

    -- If the next address has no frame, then the result is `None`.
    pub frames_odd : None ≡ frame_at m a → whole ≡ None
    frames_odd is = going_on ∙ ap (λ x. behind_frames front (onto_frames x (frames_at m rest))) (sym is)

  -- If no address remains, then the result is the list of the frames up to here.
  pub frames_over : addresses ≡ [] → whole ≡ Some front
  unfolding frames_at
  frames_over e = h ∙ ap (λ left. behind_frames front (frames_at m left)) e ∙ ap (λ xs. Some xs) (append-nil front)
