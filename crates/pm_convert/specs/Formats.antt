-- The formats of images, and their names.
use Rattle.std.specs.Prelude.{ℕ, List, [], ◌∷◌, ◌++◌, Option, codes}
use Rattle.std.specs.List.{find}
use Rattle.std.specs.Str.{bytes_eq}
use Rattle.pm_convert.specs.declared.format.ByteOrder.{ByteOrder}
use Rattle.pm_convert.specs.declared.format.ByteOrder.TheVariants as orders
use Rattle.pm_convert.specs.declared.format.Cover.{Cover}
use Rattle.pm_convert.specs.declared.format.Cover.TheVariants as covers
use Rattle.pm_convert.specs.declared.format.Format.{Format}

-- The name of an order.
abbrev pub order_name : ByteOrder → List ℕ
order_name orders.Blocks = codes "blocks"
order_name orders.Dos = codes "dos"
order_name orders.Swapped = codes "swapped"
order_name orders.Big = codes "big"

-- The prefix of the name of a format with this cover.
abbrev pub cover_prefix : Cover → List ℕ
cover_prefix covers.Bare = []
cover_prefix covers.TwoImg = codes "2mg-"
cover_prefix covers.DiskCopy = codes "dc42-"

-- The name of `format`: the prefix of its cover, and the name of its order.
abbrev pub name_of : Format → List ℕ
name_of format = cover_prefix format.cover ++ order_name format.order

-- The formats with this cover, in the order in which they are reported.
abbrev pub formats_with : Cover → List Format
formats_with cover =
    record { cover = cover; order = orders.Blocks } ∷ record { cover = cover; order = orders.Dos }
    ∷ record { cover = cover; order = orders.Swapped } ∷ record { cover = cover; order = orders.Big } ∷ []

-- All twelve formats.
abbrev pub all_formats : List Format
all_formats = formats_with covers.Bare ++ (formats_with covers.TwoImg ++ formats_with covers.DiskCopy)

-- The format with the name `word`, if there is one.
abbrev pub format_named : List ℕ → Option Format
format_named word = find (λ format. bytes_eq word (name_of format)) all_formats
