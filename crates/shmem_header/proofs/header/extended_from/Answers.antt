use Rattle.std.proofs.Common.{List, ℕ, slice_index, sym, ap, ◌∙◌, rules}
use Rattle.shmem_header.specs.Layout.{extended_in}
use Rattle.shmem_header.specs.Spelling.{bytes_of}
use Rattle.shmem_header.proofs.Fields.{extended_read}
use Rattle.pcc_bytes.proofs.Lists.{two_items}
use Rattle.shmem_header.proofs.header.extended_from.Goals as goal

pub returns : goal.returns
returns c =
    let words : List ℕ = c.args.words in
    extended_read (slice_index words 0) (slice_index words 1) _ _ _ _ c.element_fits.fits c.element_fits2.fits
    c.pair_from-signature.ensures.low c.pair_from-signature.ensures.high c.pair_from-length.ensures.low c.pair_from-length.ensures.high
    ∙ ap (λ (l : List ℕ). extended_in (bytes_of l)) (sym (two_items words (search rules)))
