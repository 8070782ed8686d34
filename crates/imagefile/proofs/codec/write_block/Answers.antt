use Rattle.std.proofs.Common.{◌≡◌, ◌∙◌, ◌*◌, ℕ, List, Result, Ok, Err, OnOk, Some, length, arith, ap, subst, sym}
use Rattle.words36.specs.Common.{IsBlock, block_bytes, nine_words}
use Rattle.imagefile.specs.Common.{Bytes, window, block_length, image_contents, image_state}
use Rattle.blockdisk.specs.Common.{IsWrite}
use Rattle.imagefile.specs.declared.form.Form.{Form}
use Rattle.imagefile.specs.declared.form.Form.TheVariants.{Wide, Packed}
use Rattle.imagefile.proofs.Contents.{image_put, packed_put}
use Rattle.imagefile.proofs.ImageCalls.{block_written}
use Rattle.imagefile.proofs.codec.write_block.Goals as goal

wide : {E : Type 0} (answer : Result (Unit {0}) E) (b : Bytes) (n at : ℕ) (bytes words : List ℕ) → at ≡ 1024 * n
    → length bytes ≡ 1024 → bytes ≡ block_bytes words → IsBlock words
    → OnOk answer (window b at (length bytes) ≡ bytes) → OnOk answer (image_contents Wide b n ≡ Some words)
wide (Ok done) b n at bytes words place long same block put = image_put b n at (length bytes) bytes place
    long words put same block
wide (Err fault) b n at bytes words place long same block put = tt

packed : {E : Type 0} (answer : Result (Unit {0}) E) (b : Bytes) (n at : ℕ) (bytes words : List ℕ) → at ≡ 576 * n
    → length bytes ≡ 576 → nine_words bytes ≡ words
    → OnOk answer (window b at (length bytes) ≡ bytes) → OnOk answer (image_contents Packed b n ≡ Some words)
packed (Ok done) b n at bytes words place long same put =
    packed_put b n at (length bytes) bytes place long words put same
packed (Err fault) b n at bytes words place long same put = tt

pub returns-in-Wide-clause-writes : goal.returns-in-Wide-clause-writes
returns-in-Wide-clause-writes g c =
    let s = g.F.Durable.state c.args.file.now in
    let s' = g.F.Durable.state c.write_at.new.self in
    let bytes = c.block_to_bytes.result in
    let place : c.place_of-at.result ≡ 1024 * c.args.n = c.place_of-at.ensures
    ∙ ap (λ (form : Form). block_length form * c.args.n) c.in-Wide.is in
    λ blocks. subst (λ (form : Form). IsWrite c.args.n c.args.block.now (image_state form blocks s)
    (image_state form blocks s') c.write_at.result) (sym c.in-Wide.is)
    (block_written Wide blocks c.args.n c.place_of-at.result
    (length bytes) s s' c.args.block.now c.write_at.result place
    (omega arith)
    (λ h. wide c.write_at.result s'.bytes c.args.n c.place_of-at.result bytes c.args.block.now place (omega arith)
    c.block_to_bytes.ensures.bytes c.block_to_bytes.ensures.words (c.write_at.ensures.put h))
    c.write_at.ensures.moves c.write_at.ensures.writes c.write_at.ensures.same c.write_at.ensures.device
    c.write_at.ensures.failed c.write_at.ensures.served)

pub returns-in-Packed-clause-writes : goal.returns-in-Packed-clause-writes
returns-in-Packed-clause-writes g c =
    let s = g.F.Durable.state c.args.file.now in
    let write = c.write_at-in-Packed in
    let s' = g.F.Durable.state write.new.self in
    let bytes = c.block_to_nine.result in
    let place : c.place_of-at.result ≡ 576 * c.args.n = c.place_of-at.ensures
    ∙ ap (λ (form : Form). block_length form * c.args.n) c.in-Packed.is in
    λ blocks. subst (λ (form : Form). IsWrite c.args.n c.args.block.now (image_state form blocks s)
    (image_state form blocks s') write.result) (sym c.in-Packed.is)
    (block_written Packed blocks c.args.n c.place_of-at.result (length bytes) s s' c.args.block.now write.result place
    (omega arith)
    (λ h. packed write.result s'.bytes c.args.n c.place_of-at.result bytes c.args.block.now place (omega arith)
    c.block_to_nine.ensures.reads_back (write.ensures.put h))
    write.ensures.moves write.ensures.writes write.ensures.same write.ensures.device write.ensures.failed
    write.ensures.served)
