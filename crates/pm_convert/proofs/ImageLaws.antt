-- Laws of images with other blocks.
use Rattle.std.proofs.Common.{◌≡◌, ◌∙◌, ◌≢◌, ◌+◌, ◌-◌, ◌≤◌, ℕ, Bool, true, false, List, Option, None, Some}
use Rattle.std.proofs.Common.{drop, length, length-drop, refl, ap, arith}
use Rattle.std.specs.Prelude.{◌==◌, ◌&&◌, if◌then◌else◌}
use Rattle.std.proofs.lemmas.Bool.{and_from, and_parts, cond-true, eq-eqb, eqb-true}
use Rattle.std.proofs.lemmas.List.{length-take-le}
use Rattle.pm_bytes.specs.Words.{written}
use Rattle.pm_convert.specs.Covers.{bytes_at, part_in}
use Rattle.pm_convert.specs.Found.{blocks_at, blocks_in}
use Rattle.pm_convert.specs.Made.{replaced_at, with_blocks, with_blocks_at}
use Rattle.pm_convert.specs.Turning.{fits, in_blocks, in_order}
use Rattle.pm_convert.specs.Worked.{ComesBack, GoesBack, is_own_inverse}
use Rattle.pm_convert.specs.declared.cover.Part.{Part}
use Rattle.pm_convert.specs.declared.format.ByteOrder.{ByteOrder}
use Rattle.pm_convert.specs.declared.format.ByteOrder.TheVariants as orders
use Rattle.pm_convert.specs.declared.format.Cover.{Cover}
use Rattle.pm_convert.specs.declared.format.Cover.TheVariants as covers
use Rattle.pm_convert.specs.declared.format.Format.{Format}
use Rattle.pm_convert.proofs.CoverLaws.{part_inside, replaced_bytes, replaced_part, replaced_size, written_same}
use Rattle.pm_convert.proofs.TurnLaws.{blocks_size, order_size, turn_back, turn_forth}

-- An image gets other blocks only if it has a volume of the same length, which can be in this order.
pub record Gets (format : Format) (image blocks made : List ℕ) (part : Part) : Type 0 where
  pub there : part_in format.cover image ≡ Some part
  pub same : length blocks ≡ part.size
  pub fit : fits format.order part.size ≡ true
  pub made_is : made ≡ replaced_at format.cover part (in_order format.order blocks) image

pub gets : (format : Format) (image blocks made : List ℕ) → with_blocks format image blocks ≡ Some made
    → (part : Part) × Gets format image blocks made part
gets format image blocks made = go (part_in format.cover image) refl
  where
    test : (part : Part) (b : Bool) → ((length blocks == part.size) && fits format.order part.size) ≡ b
        → part_in format.cover image ≡ Some part
        → (if b then Some (replaced_at format.cover part (in_order format.order blocks) image) else None) ≡ Some made
        → (part : Part) × Gets format image blocks made part
    test part false is there e = cc
    test part true is there e =
        let parts = and_parts _ _ is in
        let made_is : made ≡ replaced_at format.cover part (in_order format.order blocks) image = cc in (
          part,
          record {
            there = there;
            same = eqb-true (length blocks) part.size parts.0;
            fit = parts.1;
            made_is = made_is;
          },
        )

    go : (found : Option Part) → part_in format.cover image ≡ found → with_blocks_at format found image blocks ≡ Some made
        → (part : Part) × Gets format image blocks made part
    go None is e = cc
    go (Some part) is e = test part ((length blocks == part.size) && fits format.order part.size) refl is e

pub back : (format : Format) (image blocks made : List ℕ) → with_blocks format image blocks ≡ Some made
    → ComesBack format.order blocks → blocks_in format made ≡ Some blocks
back format image blocks made e clear =
    let got = gets format image blocks made e in
    let part = got.0 in
    let facts = got.1 in
    let size : length (in_order format.order blocks) ≡ part.size = order_size format.order blocks ∙ facts.same in
    let fit : fits format.order (length blocks) ≡ true = ap (fits format.order) facts.same ∙ facts.fit in
    ap (blocks_in format) facts.made_is
    ∙ ap (λ found. blocks_at format.order found (replaced_at format.cover part (in_order format.order blocks) image))
    (replaced_part image part (in_order format.order blocks) size format.cover facts.there)
    ∙ cond-true (fits format.order part.size) _ _ facts.fit
    ∙ ap (λ volume. Some (in_blocks format.order volume))
    (replaced_bytes image part (in_order format.order blocks) size format.cover facts.there)
    ∙ ap Some (turn_back format.order blocks fit clear)

pub keeps_size : (format : Format) (image blocks made : List ℕ) → with_blocks format image blocks ≡ Some made
    → length made ≡ length image
keeps_size format image blocks made e =
    let got = gets format image blocks made e in
    let size : length (in_order format.order blocks) ≡ (got.0).size = order_size format.order blocks ∙ got.1.same in
    ap length got.1.made_is ∙ replaced_size image got.0 (in_order format.order blocks) size format.cover got.1.there

-- ---- an image that gets its own blocks

own : (order : ByteOrder) (volume : List ℕ) → is_own_inverse order ≡ true → GoesBack order volume
own orders.Blocks volume is = tt
own orders.Dos volume is = tt
own orders.Swapped volume is = tt
own orders.Big volume is = cc

plain : (cover : Cover) (part : Part) (volume image : List ℕ) → cover ≢ covers.DiskCopy
    → replaced_at cover part volume image ≡ written image part.begin volume
plain covers.Bare part volume image other = refl
plain covers.TwoImg part volume image other = refl
plain covers.DiskCopy part volume image other = absurd (other refl)

-- The volume in an image has the length that is stated.
bytes_size : (part : Part) (image : List ℕ) → part.begin + part.size ≤ length image → length (bytes_at part image) ≡ part.size
bytes_size part image inside =
    length-take-le ((part.begin + part.size) - part.begin) (drop part.begin image)
    (omega (arith, inside, length-drop part.begin image))
    ∙ omega arith

pub same : (format : Format) (image blocks : List ℕ) → blocks_in format image ≡ Some blocks
    → is_own_inverse format.order ≡ true → format.cover ≢ covers.DiskCopy → with_blocks format image blocks ≡ Some image
same format image blocks e inverse other = go (part_in format.cover image) refl e
  where
    test : (part : Part) (b : Bool) → fits format.order part.size ≡ b → part_in format.cover image ≡ Some part
        → (if b then Some (in_blocks format.order (bytes_at part image)) else None) ≡ Some blocks
        → with_blocks_at format (Some part) image blocks ≡ Some image
    test part false is there e = cc
    test part true is there e =
        let own_is : blocks ≡ in_blocks format.order (bytes_at part image) = cc in
        let inside = part_inside format.cover image part there in
        let whole : length (bytes_at part image) ≡ part.size = bytes_size part image inside in
        let fit : fits format.order (length (bytes_at part image)) ≡ true = ap (fits format.order) whole ∙ is in
        let size : length blocks ≡ part.size
        = ap length own_is ∙ blocks_size format.order (bytes_at part image) ∙ whole in
        let volume : in_order format.order blocks ≡ bytes_at part image
        = ap (in_order format.order) own_is
        ∙ turn_forth format.order (bytes_at part image) fit (own format.order (bytes_at part image) inverse) in
        cond-true ((length blocks == part.size) && fits format.order part.size) _ _
        (and_from (length blocks == part.size) (fits format.order part.size) (eq-eqb (length blocks) part.size size) is)
        ∙ ap (λ volume. Some (replaced_at format.cover part volume image)) volume
        ∙ ap Some (plain format.cover part (bytes_at part image) image other)
        ∙ ap Some (written_same image part.begin part.size inside)

    go : (found : Option Part) → part_in format.cover image ≡ found → blocks_at format.order found image ≡ Some blocks
        → with_blocks format image blocks ≡ Some image
    go None is e = cc
    go (Some part) is e = ap (λ found. with_blocks_at format found image blocks) is
        ∙ test part (fits format.order part.size) refl is e
