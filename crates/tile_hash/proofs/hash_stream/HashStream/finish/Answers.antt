use Rattle.tile_hash.proofs.Common.{ap, decimal, encode_upper, word_text, ◌∙◌}
use Rattle.tile_hash.proofs.HashStreamLemmas.{text_taken}
use Rattle.tile_hash.proofs.hash_stream.HashStream.finish.Goals as goal

pub returns-in-Md5 : goal.returns-in-Md5
returns-in-Md5 c = λ a bytes took. text_taken _ a _ bytes (encode_upper c.finalize.result) _ c.in-Md5.is took (λ t. ap encode_upper (c.finalize.ensures bytes t)) c.upper_hex.ensures

pub returns-in-Fnv1a : goal.returns-in-Fnv1a
returns-in-Fnv1a c = λ a bytes took. text_taken _ a _ bytes (encode_upper c.to_be_bytes.result) _ c.in-Fnv1a.is took (λ t. ap encode_upper c.to_be_bytes.ensures ∙ ap word_text t) c.upper_hex-in-Fnv1a.ensures

pub returns-in-Fnv1aDecimal : goal.returns-in-Fnv1aDecimal
returns-in-Fnv1aDecimal c = λ a bytes took. text_taken _ a _ bytes (decimal c.in-Fnv1aDecimal.hash) _ c.in-Fnv1aDecimal.is took (λ t. ap decimal t) c.number.ensures

pub returns-in-Xxh64 : goal.returns-in-Xxh64
returns-in-Xxh64 c = λ a bytes took. text_taken _ a _ bytes (encode_upper c.to_be_bytes-in-Xxh64.result) _ c.in-Xxh64.is took (λ t. ap encode_upper c.to_be_bytes-in-Xxh64.ensures ∙ ap word_text (c.finish.ensures bytes t)) c.upper_hex-in-Xxh64.ensures

pub returns-in-Xxh3 : goal.returns-in-Xxh3
returns-in-Xxh3 c = λ a bytes took. text_taken _ a _ bytes (encode_upper c.to_be_bytes-in-Xxh3.result) _ c.in-Xxh3.is took (λ t. ap encode_upper c.to_be_bytes-in-Xxh3.ensures ∙ ap word_text (c.finish-in-Xxh3.ensures bytes t)) c.upper_hex-in-Xxh3.ensures
