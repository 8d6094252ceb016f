use Rattle.std.proofs.Common.{[], ◌∷◌, ◌∙◌}
use Rattle.links.proofs.Feed.{signed_byte, four_bytes, eight_bytes, link_fed}
use Rattle.links.proofs.state.feeds.feed_link.Goals as goal

pub returns : goal.returns
returns c =
    let l = c.args.link in
    record {
      state = link_fed c.args.hasher.now.0 c.write.new.self.0 c.write-2.new.self.0 c.write-3.new.self.0 c.write-4.new.self.0 l _ _ _ _
          c.write.ensures.state c.write-2.ensures.state c.write-3.ensures.state c.write-4.ensures.state
          (λ i. c.size-width.ensures i ∷ (c.from-signed.ensures ∙ signed_byte l.is_signed) i ∷ c.from-whence.ensures i ∷ [])
          (c.to_be_bytes.ensures ∙ four_bytes l.bias) (c.to_be_bytes-2.ensures ∙ four_bytes l.position) (c.to_be_bytes-3.ensures ∙ eight_bytes l.objidx.0);
    }
