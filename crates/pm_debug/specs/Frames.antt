-- The frames of the dynamic chain, each with the position to which it returns.
use Rattle.std.specs.Prelude.{ℕ, ◌+◌, ◌%◌, ◌==◌, not, List, [], ◌∷◌, Option, Some, None, if◌then◌else◌}
use Rattle.pm_words.specs.Words.{word_at}
use Rattle.pm_words.specs.Stack.{is_even}
use Rattle.pm_machine.specs.State.{State}
use Rattle.pm_words.specs.declared.layout.TheConstants.{SYSTEM_FRAME}
use Rattle.pm_machine.specs.declared.code_place.CodePlace.{CodePlace}
use Rattle.pm_debug.specs.declared.frames.Frame.{Frame}
use Rattle.pm_machine.specs.CodePlaces.{place_at}
use Rattle.pm_debug.specs.Views.{dynamic_chain}

-- The control word at offset `distance` of the frame at address `f`.
abbrev pub control_word : List ℕ → ℕ → ℕ → ℕ
control_word m f distance = word_at m ((f + distance) % 65536)

abbrev pub returning : ℕ → Option CodePlace → Option Frame
returning f None = None
returning f (Some place) = Some (record { address = f; returns_to = Some place })

-- The frame at address `f`, with the position to which it returns. The SEG, JTAB and IPC in the frame determine this
-- position. If the dynamic link is the system's frame, 65,492, the return ends the program, and the frame has no
-- position. The result is `None` if `f`, SEG or JTAB is odd.
unfoldable pub frame_at : List ℕ → ℕ → Option Frame
frame_at m f =
    if not (is_even f) then None
    else if control_word m f 2 == SYSTEM_FRAME then Some (record { address = f; returns_to = None })
    else returning f (place_at m (control_word m f 6) (control_word m f 4) (control_word m f 8))

abbrev pub onto_frames : Option Frame → Option (List Frame) → Option (List Frame)
onto_frames None frames = None
onto_frames (Some frame) None = None
onto_frames (Some frame) (Some frames) = Some (frame ∷ frames)

-- The frames at these addresses, or `None` if one of the addresses has no frame.
unfoldable pub frames_at : List ℕ → List ℕ → Option (List Frame)
frames_at m [] = Some []
frames_at m (f ∷ fs) = onto_frames (frame_at m f) (frames_at m fs)

abbrev pub frames_of : List ℕ → Option (List ℕ) → Option (List Frame)
frames_of m None = None
frames_of m (Some addresses) = frames_at m addresses

-- At most `limit` frames of the dynamic chain.
abbrev pub frames : State → ℕ → Option (List Frame)
frames s limit = frames_of s.memory (dynamic_chain s limit)
