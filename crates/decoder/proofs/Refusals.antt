-- A file is refused with a number from 1 to 5, as each of its fields, items and sections is.
use Rattle.decoder.specs.Theorems.{DecodeRefusals}
use Rattle.decoder.proofs.Valid.{file_in}

pub decode_refusals : DecodeRefusals
decode_refusals f file k e = rw e at (file_in f file)
